-- What holds of lawful entries, and that each kind of entry keeps it.
use Rattle.std.proofs.Common.{◌≡◌, ℕ, suc, ◌+◌, ◌<◌, ◌≤◌, Bool, true, false, not, ◌||◌, ◌⊎◌, inl, inr, List, [], ◌∷◌, ◌++◌, filter, cond, length, refl, sym, ap, ◌∙◌, subst, arith, append-nil, ◌≢◌, true≢false, length-append}
use Rattle.std.specs.List.{AllByRecursion}
use Rattle.std.proofs.lemmas.List.Elements.{filter-append, filter_agree}
use Rattle.mj_mail.specs.declared.entry.Entry.{Entry}
use Rattle.mj_mail.specs.declared.entry.Entry.TheVariants.{Setup, Accept, Done}
use Rattle.mj_mail.specs.declared.fact.Outcome.{Outcome}
use Rattle.mj_mail.specs.declared.mail.Mail.{Mail}
use Rattle.mj_mail.specs.declared.mail.NewMail.{NewMail}
use Rattle.mj_mail.specs.declared.name.Name.{Name}
use Rattle.mj_mail.specs.declared.reply.Reply.{Reply}
use Rattle.mj_mail.specs.Name.{child_name, first_name}
use Rattle.mj_mail.specs.Rules.{AreNumbered}
use Rattle.mj_lawful.specs.Configurations.{Meanings, Laws, outcome_at}
use Rattle.mj_lawful.specs.Entries.{epochs, accepted, is_done, births, pending}
use Rattle.mj_lawful.specs.Lawful.{FitsAccept, FitsDone, FitsSetup}
use Rattle.mj_lawful.specs.Places.{same_name}
use Rattle.mj_lawful.proofs.Behind.{is_done_append, births_append, accepted_append, epochs_append, AreCountedFrom, counted_append}
use Rattle.mj_lawful.proofs.Lists.{all_append, all_weaker, all_filter, each_of}
use Rattle.mj_lawful.proofs.Names.{same_is, same_itself, differs, parent_is, number_is, child_is_not_first, name_is_not_child}
use Rattle.mj_lawful.proofs.Pending.{AreApart, IsBorn, all_has, born_not, born_left, born_has, apart_append, filter_keeps, filter_true, filter_twice, without}

-- the first mail of an Accept entry that stands there, or a child of a mail that is done
abbrev pub IsKnown : List Entry → Mail → Type 0
IsKnown entries mail =
    ((n : ℕ) × (n ≤ length (accepted entries)) × (mail.name ≡ first_name n))
    ⊎ ((parent : Name) × (k : ℕ) × (is_done entries parent ≡ true) × (mail.name ≡ child_name parent k))

-- Pending mails are sound for the configuration in force, no two births have the same name, each is a first mail or a
-- child of a mail that is done, each mail that is done was born, and what was accepted is counted from 1.
pub record Holds (r : Meanings) (entries : List Entry) : Type 0 where
  pub sound : AllByRecursion (λ mail. r.sound (epochs entries) mail ≡ true) (pending r entries)
  pub apart : AreApart (births r entries)
  pub known : AllByRecursion (IsKnown entries) (births r entries)
  pub born : (name : Name) → is_done entries name ≡ true → IsBorn (births r entries) name
  pub counted : AreCountedFrom 1 (accepted entries)

pub holds_at_first : (r : Meanings) → Holds r []
holds_at_first r = record { sound = tt; apart = tt; known = tt; born = λ name h. true≢false (sym h); counted = tt }

known_more : (entries more : List Entry) (mail : Mail) → IsKnown entries mail → IsKnown (entries ++ more) mail
known_more entries more mail (inl h) =
    let least : h.0 ≤ length (accepted entries) = h.1 in
    let both = ap (λ (mails : List (ℕ × NewMail)). length mails) (accepted_append entries more) in
    inl (h.0, omega (arith, length-append (accepted entries) (accepted more)), h.2)
known_more entries more mail (inr h) = inr (h.0, h.1, is_done_append entries more h.0 ∙ ap (λ b. b || is_done more h.0) h.2, h.3)

-- a child of a mail that is not done is not born yet
known_not_child : (entries : List Entry) (mail : Mail) (name : Name) (i : ℕ) → is_done entries name ≡ false → IsKnown entries mail
    → mail.name ≢ child_name name i
known_not_child entries mail name i undone_yet (inl h) e = child_is_not_first name i h.0 (sym e ∙ h.2)
known_not_child entries mail name i undone_yet (inr h) e =
    true≢false (sym h.2 ∙ (ap (is_done entries) (parent_is h.0 name h.1 i (sym h.3 ∙ e)) ∙ undone_yet))

-- a first mail under the next number isn't born yet
known_not_next : (entries : List Entry) (mail : Mail) (n : ℕ) → length (accepted entries) < n → IsKnown entries mail → mail.name ≢ first_name n
known_not_next entries mail n lt (inl h) e =
    let f : h.0 ≡ n = ap (λ (m : Name). m.number) (sym h.2 ∙ e) in let le : h.0 ≤ length (accepted entries) = h.1 in absurd (omega arith)
known_not_next entries mail n lt (inr h) e = child_is_not_first h.0 h.1 n (sym h.3 ∙ e)

-- what isn't born isn't done
not_done : (r : Meanings) (entries : List Entry) → Holds r entries → (name : Name) → AllByRecursion (λ other. other.name ≢ name) (births r entries)
    → is_done entries name ≡ false
not_done r entries holds name h = by (is_done entries name) refl
  where
    by : (b : Bool) → is_done entries name ≡ b → is_done entries name ≡ false
    by true e = absurd (born_not (births r entries) name h (holds.born name e))
    by false e = e

-- ---- Births

pub births_setup : (r : Meanings) (entries : List Entry) (plan : List ℕ) → births r (entries ++ Setup plan ∷ []) ≡ births r entries
births_setup r entries plan = births_append r 0 entries (Setup plan ∷ []) ∙ append-nil (births r entries)

pub births_accept : (r : Meanings) (entries : List Entry) (number : ℕ) (file : List ℕ) (new : NewMail)
    → births r (entries ++ Accept number file new ∷ []) ≡ births r entries ++ r.first (epochs entries) number new ∷ []
births_accept r entries number file new =
    births_append r 0 entries (Accept number file new ∷ []) ∙ ap (λ e. births r entries ++ r.first e number new ∷ []) (omega arith)

pub births_done : (r : Meanings) (entries : List Entry) (name : Name) (replies : List Reply) (outcome : Outcome)
    → births r (entries ++ Done name replies outcome ∷ []) ≡ births r entries ++ outcome.children
births_done r entries name replies outcome =
    births_append r 0 entries (Done name replies outcome ∷ []) ∙ ap (λ ms. births r entries ++ ms) (append-nil outcome.children)

-- ---- Names that are done

or_nil : (b : Bool) → (b || false) ≡ b
or_nil true = refl
or_nil false = refl

pub done_setup : (entries : List Entry) (plan : List ℕ) (name : Name) → is_done (entries ++ Setup plan ∷ []) name ≡ is_done entries name
done_setup entries plan name = is_done_append entries (Setup plan ∷ []) name ∙ or_nil (is_done entries name)

pub done_accept : (entries : List Entry) (number : ℕ) (file : List ℕ) (new : NewMail) (name : Name)
    → is_done (entries ++ Accept number file new ∷ []) name ≡ is_done entries name
done_accept entries number file new name = is_done_append entries (Accept number file new ∷ []) name ∙ or_nil (is_done entries name)

pub done_done : (entries : List Entry) (done : Name) (replies : List Reply) (outcome : Outcome) (name : Name)
    → is_done (entries ++ Done done replies outcome ∷ []) name ≡ (is_done entries name || same_name done name)
done_done entries done replies outcome name =
    is_done_append entries (Done done replies outcome ∷ []) name ∙ ap (λ b. is_done entries name || b) (or_nil (same_name done name))

-- ---- Pending mails

abbrev pub undone : List Entry → List Mail → List Mail
undone entries mails = filter (λ mail. not (is_done entries mail.name)) mails

pub pending_setup : (r : Meanings) (entries : List Entry) (plan : List ℕ) → pending r (entries ++ Setup plan ∷ []) ≡ pending r entries
pending_setup r entries plan =
    ap (undone (entries ++ Setup plan ∷ [])) (births_setup r entries plan)
    ∙ filter_agree (λ mail. not (is_done (entries ++ Setup plan ∷ []) mail.name)) (λ mail. not (is_done entries mail.name))
    (λ mail. ap not (done_setup entries plan mail.name)) (births r entries)

pub pending_accept : (r : Meanings) (entries : List Entry) (number : ℕ) (file : List ℕ) (new : NewMail)
    → is_done entries (r.first (epochs entries) number new).name ≡ false
    → pending r (entries ++ Accept number file new ∷ []) ≡ pending r entries ++ r.first (epochs entries) number new ∷ []
pending_accept r entries number file new fresh =
    let mail = r.first (epochs entries) number new in
    ap (undone (entries ++ Accept number file new ∷ [])) (births_accept r entries number file new)
    ∙ (filter_agree (λ m. not (is_done (entries ++ Accept number file new ∷ []) m.name)) (λ m. not (is_done entries m.name))
    (λ m. ap not (done_accept entries number file new m.name)) (births r entries ++ mail ∷ [])
    ∙ (filter-append (λ m. not (is_done entries m.name)) (births r entries) (mail ∷ [])
    ∙ ap (λ b. pending r entries ++ cond (not b) (mail ∷ []) []) fresh))

pub pending_done : (r : Meanings) (entries : List Entry) (name : Name) (replies : List Reply) (outcome : Outcome)
    → AllByRecursion (λ child. is_done (entries ++ Done name replies outcome ∷ []) child.name ≡ false) outcome.children
    → pending r (entries ++ Done name replies outcome ∷ []) ≡ without name (pending r entries) ++ outcome.children
pending_done r entries name replies outcome fresh =
    let after = entries ++ Done name replies outcome ∷ [] in
    ap (undone after) (births_done r entries name replies outcome)
    ∙ (filter-append (λ m. not (is_done after m.name)) (births r entries) outcome.children
    ∙ (λ i. ((filter_agree (λ m. not (is_done after m.name)) (λ m. not (is_done entries m.name || same_name name m.name))
    (λ m. ap not (done_done entries name replies outcome m.name)) (births r entries)
    ∙ filter_twice (λ m. is_done entries m.name) (λ m. same_name name m.name) (births r entries)) i)
    ++ (filter_keeps (λ m. not (is_done after m.name)) outcome.children
    (all_weaker (λ child. is_done after child.name ≡ false) (λ m. not (is_done after m.name) ≡ true) (λ m e. ap not e) outcome.children fresh) i)))

-- ---- Each kind of entry

accepted_same : (r : Meanings) (entries : List Entry) (entry : Entry) → accepted (entry ∷ []) ≡ [] → accepted (entries ++ entry ∷ []) ≡ accepted entries
accepted_same r entries entry e = accepted_append entries (entry ∷ []) ∙ (ap (λ mails. accepted entries ++ mails) e ∙ append-nil (accepted entries))

pub holds_setup : (r : Meanings) (entries : List Entry) (plan : List ℕ) → Holds r entries → FitsSetup r entries plan → Holds r (entries ++ Setup plan ∷ [])
holds_setup r entries plan holds fits =
    let after = entries ++ Setup plan ∷ [] in
    let epoch : epochs after ≡ suc (epochs entries) = epochs_append entries (Setup plan ∷ []) ∙ (omega arith) in
    record {
      sound = subst (λ n. AllByRecursion (λ mail. r.sound n mail ≡ true) (pending r after)) (sym epoch)
          (subst (AllByRecursion (λ mail. r.sound (suc (epochs entries)) mail ≡ true)) (sym (pending_setup r entries plan))
          (each_of (r.sound (suc (epochs entries))) (pending r entries) fits.sound));
      apart = subst AreApart (sym (births_setup r entries plan)) holds.apart;
      known = subst (AllByRecursion (IsKnown after)) (sym (births_setup r entries plan))
          (all_weaker (IsKnown entries) (IsKnown after) (known_more entries (Setup plan ∷ [])) (births r entries) holds.known);
      born = λ name done. subst (λ ms. IsBorn ms name) (sym (births_setup r entries plan)) (holds.born name (sym (done_setup entries plan name) ∙ done));
      counted = subst (AreCountedFrom 1) (sym (accepted_same r entries (Setup plan) refl)) holds.counted;
    }

-- a first mail that is accepted has a name that no mail before it has
pub unborn_first : (r : Meanings) → Laws r → (entries : List Entry) (number : ℕ) (file : List ℕ) (new : NewMail) → Holds r entries
    → FitsAccept r entries number file new → AllByRecursion (λ other. other.name ≢ (r.first (epochs entries) number new).name) (births r entries)
unborn_first r laws entries number file new holds fits =
    let named : (r.first (epochs entries) number new).name ≡ first_name number = laws.first_named (epochs entries) number new in
    let next : number ≡ suc (length (accepted entries)) = fits.counted in
    all_weaker (IsKnown entries) (λ other. other.name ≢ (r.first (epochs entries) number new).name)
    (λ other known e. known_not_next entries other number (omega arith) known (e ∙ named)) (births r entries) holds.known

pub accepted_fresh : (r : Meanings) → Laws r → (entries : List Entry) (number : ℕ) (file : List ℕ) (new : NewMail) → Holds r entries
    → FitsAccept r entries number file new → is_done entries (r.first (epochs entries) number new).name ≡ false
accepted_fresh r laws entries number file new holds fits =
    not_done r entries holds (r.first (epochs entries) number new).name (unborn_first r laws entries number file new holds fits)

pub holds_accept : (r : Meanings) → Laws r → (entries : List Entry) (number : ℕ) (file : List ℕ) (new : NewMail) → Holds r entries
    → FitsAccept r entries number file new → Holds r (entries ++ Accept number file new ∷ [])
holds_accept r laws entries number file new holds fits =
    let entry = Accept number file new in
    let after = entries ++ entry ∷ [] in
    let mail = r.first (epochs entries) number new in
    let named : mail.name ≡ first_name number = laws.first_named (epochs entries) number new in
    let next : number ≡ suc (length (accepted entries)) = fits.counted in
    let fresh = unborn_first r laws entries number file new holds fits in
    let there = not_done r entries holds mail.name fresh in
    let epoch : epochs after ≡ epochs entries = epochs_append entries (entry ∷ []) ∙ (omega arith) in
    let more : accepted after ≡ accepted entries ++ (number, new) ∷ [] = accepted_append entries (entry ∷ []) in
    let longer = ap (λ (mails : List (ℕ × NewMail)). length mails) more in
    let within : number ≤ length (accepted after) = omega (arith, length-append (accepted entries) ((number, new) ∷ [])) in
    record {
      sound = subst (λ n. AllByRecursion (λ m. r.sound n m ≡ true) (pending r after)) (sym epoch)
          (subst (AllByRecursion (λ m. r.sound (epochs entries) m ≡ true)) (sym (pending_accept r entries number file new there))
          (all_append (λ m. r.sound (epochs entries) m ≡ true) (pending r entries) (mail ∷ []) holds.sound
          (laws.first_sound (epochs entries) number new fits.acceptable, tt)));
      apart = subst AreApart (sym (births_accept r entries number file new))
          (apart_append (births r entries) (mail ∷ []) holds.apart (tt, tt)
          (all_weaker (λ other. other.name ≢ mail.name) (λ x. AllByRecursion (λ y. y.name ≢ x.name) (mail ∷ [])) (λ x ne. (λ e. ne (sym e), tt))
          (births r entries) fresh));
      known = subst (AllByRecursion (IsKnown after)) (sym (births_accept r entries number file new))
          (all_append (IsKnown after) (births r entries) (mail ∷ [])
          (all_weaker (IsKnown entries) (IsKnown after) (known_more entries (entry ∷ [])) (births r entries) holds.known)
          (inl (number, within, named), tt));
      born = λ name done. subst (λ ms. IsBorn ms name) (sym (births_accept r entries number file new))
          (born_left (births r entries) (mail ∷ []) name (holds.born name (sym (done_accept entries number file new name) ∙ done)));
      counted = subst (AreCountedFrom 1) (sym more) (counted_append 1 (accepted entries) ((number, new)) holds.counted (next ∙ (omega arith)));
    }

-- the children of a name, from the number k on
abbrev pub IsChildFrom : Name → ℕ → Mail → Type 0
IsChildFrom name k mail = (i : ℕ) × (k ≤ i) × (mail.name ≡ child_name name i)

numbered_are : (name : Name) (k : ℕ) (mails : List Mail) → AreNumbered name k mails → AllByRecursion (IsChildFrom name k) mails
numbered_are name k [] h = tt
numbered_are name k (m ∷ mails) h = (
  (k, (omega arith), h.0),
  all_weaker (IsChildFrom name (k + 1)) (IsChildFrom name k)
      (λ x g. (g.0, (let le : k + 1 ≤ g.0 = g.1 in omega arith), g.2)) mails (numbered_are name (k + 1) mails h.1),
)

numbered_apart : (name : Name) (k : ℕ) (mails : List Mail) → AreNumbered name k mails → AreApart mails
numbered_apart name k [] h = tt
numbered_apart name k (m ∷ mails) h = (
  all_weaker (IsChildFrom name (k + 1)) (λ other. other.name ≢ m.name)
      (λ other g e. let le : k + 1 ≤ g.0 = g.1 in let same : g.0 ≡ k = number_is name name g.0 k (sym g.2 ∙ (e ∙ h.0)) in absurd (omega arith))
      mails (numbered_are name (k + 1) mails h.1),
  numbered_apart name (k + 1) mails h.1,
)

-- what a lawful Done entry says
pub record Steps (r : Meanings) (entries : List Entry) (name : Name) (outcome : Outcome) : Type 0 where
  pub waiting : is_done entries name ≡ false
  pub there : IsBorn (births r entries) name
  pub numbered : AreNumbered name 1 outcome.children
  pub sound : AllByRecursion (λ child. r.sound (epochs entries) child ≡ true) outcome.children

not_true : (b : Bool) → not b ≡ true → b ≡ false
not_true true h = cc
not_true false h = refl

pub steps_of : (r : Meanings) → Laws r → (entries : List Entry) (name : Name) (replies : List Reply) (outcome : Outcome) → Holds r entries
    → FitsDone r entries name replies outcome → Steps r entries name outcome
steps_of r laws entries name replies outcome holds fits =
    let mail = fits.mail in
    let sound = all_has (λ m. r.sound (epochs entries) m ≡ true) (pending r entries) mail holds.sound fits.waits in
    let unfinished = all_has (λ m. not (is_done entries m.name) ≡ true) (pending r entries) mail
    (filter_true (λ m. not (is_done entries m.name)) (births r entries)) fits.waits in
    record {
      waiting = subst (λ n. is_done entries n ≡ false) fits.named (not_true (is_done entries mail.name) unfinished);
      there = subst (IsBorn (births r entries)) fits.named (born_has (λ m. not (is_done entries m.name)) (births r entries) mail fits.waits);
      numbered = subst (λ (o : Outcome). AreNumbered name 1 o.children) (sym fits.stepped)
          (subst (λ n. AreNumbered n 1 (outcome_at r (epochs entries) mail).children) fits.named (laws.children_named (epochs entries) mail sound));
      sound = subst (λ (o : Outcome). AllByRecursion (λ child. r.sound (epochs entries) child ≡ true) o.children) (sym fits.stepped)
          (each_of (r.sound (epochs entries)) (outcome_at r (epochs entries) mail).children (laws.children_sound (epochs entries) mail sound));
    }

-- no child of a mail that is not done is done, nor is it once the mail is done
pub children_fresh : (r : Meanings) (entries : List Entry) (name : Name) (replies : List Reply) (outcome : Outcome) → Holds r entries
    → Steps r entries name outcome
    → AllByRecursion (λ child. is_done (entries ++ Done name replies outcome ∷ []) child.name ≡ false) outcome.children
children_fresh r entries name replies outcome holds steps =
    all_weaker (IsChildFrom name 1) (λ child. is_done (entries ++ Done name replies outcome ∷ []) child.name ≡ false)
    (λ child g.
    let unborn : AllByRecursion (λ other. other.name ≢ child.name) (births r entries) =
    all_weaker (IsKnown entries) (λ other. other.name ≢ child.name)
    (λ other known e. known_not_child entries other name g.0 steps.waiting known (e ∙ g.2)) (births r entries) holds.known in
    let early = not_done r entries holds child.name unborn in
    let other = differs name child.name (λ e. name_is_not_child name g.0 (e ∙ g.2)) in
    done_done entries name replies outcome child.name ∙ (λ i. early i || other i))
    outcome.children (numbered_are name 1 outcome.children steps.numbered)

pub holds_done : (r : Meanings) (entries : List Entry) (name : Name) (replies : List Reply) (outcome : Outcome) → Holds r entries
    → Steps r entries name outcome → Holds r (entries ++ Done name replies outcome ∷ [])
holds_done r entries name replies outcome holds steps =
    let entry = Done name replies outcome in
    let after = entries ++ entry ∷ [] in
    let children = outcome.children in
    let are = numbered_are name 1 children steps.numbered in
    let epoch : epochs after ≡ epochs entries = epochs_append entries (entry ∷ []) ∙ (omega arith) in
    let now_done : is_done after name ≡ true = done_done entries name replies outcome name ∙ (λ i. steps.waiting i || same_itself name i) in
    record {
      sound = subst (λ n. AllByRecursion (λ m. r.sound n m ≡ true) (pending r after)) (sym epoch)
          (subst (AllByRecursion (λ m. r.sound (epochs entries) m ≡ true))
          (sym (pending_done r entries name replies outcome (children_fresh r entries name replies outcome holds steps)))
          (all_append (λ m. r.sound (epochs entries) m ≡ true) (without name (pending r entries)) children
          (all_filter (λ m. r.sound (epochs entries) m ≡ true) (λ other. not (same_name name other.name)) (pending r entries) holds.sound) steps.sound));
      apart = subst AreApart (sym (births_done r entries name replies outcome))
          (apart_append (births r entries) children holds.apart (numbered_apart name 1 children steps.numbered)
          (all_weaker (IsKnown entries) (λ x. AllByRecursion (λ y. y.name ≢ x.name) children)
          (λ x known. all_weaker (IsChildFrom name 1) (λ y. y.name ≢ x.name)
          (λ y g e. known_not_child entries x name g.0 steps.waiting known (sym e ∙ g.2)) children are)
          (births r entries) holds.known));
      known = subst (AllByRecursion (IsKnown after)) (sym (births_done r entries name replies outcome))
          (all_append (IsKnown after) (births r entries) children
          (all_weaker (IsKnown entries) (IsKnown after) (known_more entries (entry ∷ [])) (births r entries) holds.known)
          (all_weaker (IsChildFrom name 1) (IsKnown after) (λ child g. inr (name, g.0, now_done, g.2)) children are));
      born = λ other done. subst (λ ms. IsBorn ms other) (sym (births_done r entries name replies outcome))
          (born_left (births r entries) children other (born_by other (is_done entries other) refl
          (sym (done_done entries name replies outcome other) ∙ done)));
      counted = subst (AreCountedFrom 1) (sym (accepted_same r entries entry refl)) holds.counted;
    }
  where
    born_by : (other : Name) (b : Bool) → is_done entries other ≡ b → (is_done entries other || same_name name other) ≡ true → IsBorn (births r entries) other
    born_by other true e h = holds.born other e
    born_by other false e h = subst (IsBorn (births r entries)) (same_is name other (sym (ap (λ b. b || same_name name other) e) ∙ h)) steps.there
