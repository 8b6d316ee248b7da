-- Lawful lists are cut. The trees are those of the whole list, fixed once; along its entries the facts so far with the
-- trees of the pending mails stay, in another order, the trees of the first mails so far. So an entry that changes the
-- configuration changes no tree.
use Rattle.std.proofs.Common.{◌≡◌, ℕ, suc, ◌+◌, true, false, not, List, [], ◌∷◌, ◌++◌, map, refl, sym, ap, ◌∙◌, subst, arith, append_assoc, append-nil, IsPermutation}
use Rattle.std.specs.List.{flat_map}
use Rattle.std.proofs.lemmas.List.Sorted.{IsPermutation-refl, IsPermutation-sym, IsPermutation-trans, IsPermutation-append_left, IsPermutation-append_right, IsPermutation-append_comm}
use Rattle.std.proofs.lemmas.List.Folds.{flat_map-map}
use Rattle.mj_mail.specs.declared.entry.Entry.{Entry}
use Rattle.mj_mail.specs.declared.entry.Entry.TheVariants.{Setup, Accept, Done}
use Rattle.mj_mail.specs.declared.fact.Outcome.{Outcome}
use Rattle.mj_mail.specs.declared.mail.Mail.{Mail}
use Rattle.mj_mail.specs.declared.mail.NewMail.{NewMail}
use Rattle.mj_mail.specs.declared.name.Name.{Name}
use Rattle.mj_mail.specs.declared.reply.Reply.{Reply}
use Rattle.mj_mail.specs.Meaning.{Placed, placed, gather}
use Rattle.mj_lawful.specs.Configurations.{Meanings, Laws, outcome_at}
use Rattle.mj_lawful.specs.Entries.{epochs, era, source, accepted, facts, is_done, births, pending}
use Rattle.mj_lawful.specs.Lawful.{Has, Fits, AreLawfulBehind, AreLawful, known_and_due, step_in, tree, meaning, IsCut, IsCutExactly}
use Rattle.mj_lawful.specs.Places.{AreInOrder, in_order}
use Rattle.mj_lawful.proofs.Behind.{era_at_done, facts_append, roots_from, roots_append, roots_are, roots_named, AreCountedFrom}
use Rattle.mj_lawful.proofs.Holds.{Holds, Steps, holds_at_first, holds_setup, holds_accept, holds_done, steps_of, children_fresh, pending_setup, pending_accept, pending_done, accepted_fresh}
use Rattle.mj_lawful.proofs.Lists.{flat_map_append}
use Rattle.mj_lawful.proofs.Order.{tree_under, tree_in_order, firsts_in_order}
use Rattle.mj_lawful.proofs.Pending.{all_has, apart_filter, take_out, without}
use Rattle.mj_lawful.proofs.Trees.{tree_unfolds, step_named, step_sound}
use Rattle.mj_lawful.proofs.Unique.{sorted_is}

-- the facts so far with the trees of the pending mails are the trees of the first mails so far, in another order
abbrev pub IsJoined : Meanings → (Mail → List Placed) → List Entry → Type 0
IsJoined r trees entries = IsPermutation (facts entries ++ flat_map trees (pending r entries)) (flat_map trees (roots_from r 0 entries))

same_lists : (as' bs cs ds : List Placed) → as' ≡ cs → bs ≡ ds → IsPermutation as' bs → IsPermutation cs ds
same_lists as' bs cs ds e f h = subst (IsPermutation cs) f (subst (λ xs. IsPermutation xs bs) e h)

joined_setup : (r : Meanings) (trees : Mail → List Placed) (entries : List Entry) (plan : List ℕ) → IsJoined r trees entries
    → IsJoined r trees (entries ++ Setup plan ∷ [])
joined_setup r trees entries plan joined =
    let after = entries ++ Setup plan ∷ [] in
    same_lists (facts entries ++ flat_map trees (pending r entries)) (flat_map trees (roots_from r 0 entries))
    (facts after ++ flat_map trees (pending r after)) (flat_map trees (roots_from r 0 after))
    (λ i. sym (facts_append entries (Setup plan ∷ []) ∙ append-nil (facts entries)) i ++ flat_map trees (sym (pending_setup r entries plan) i))
    (ap (flat_map trees) (sym (roots_append r 0 entries (Setup plan ∷ []) ∙ append-nil (roots_from r 0 entries))))
    joined

joined_accept : (r : Meanings) (trees : Mail → List Placed) (entries : List Entry) (number : ℕ) (file : List ℕ) (new : NewMail)
    → is_done entries (r.first (epochs entries) number new).name ≡ false
    → IsJoined r trees entries → IsJoined r trees (entries ++ Accept number file new ∷ [])
joined_accept r trees entries number file new fresh joined =
    let entry = Accept number file new in
    let after = entries ++ entry ∷ [] in
    let mail = r.first (epochs entries) number new in
    let waiting = flat_map trees (pending r entries) in
    let started = flat_map trees (roots_from r 0 entries) in
    let one = flat_map trees (mail ∷ []) in
    same_lists ((facts entries ++ waiting) ++ one) (started ++ one) (facts after ++ flat_map trees (pending r after)) (flat_map trees (roots_from r 0 after))
    (append_assoc (facts entries) waiting one
    ∙ (λ i. sym (facts_append entries (entry ∷ []) ∙ append-nil (facts entries)) i
    ++ (sym (flat_map_append trees (pending r entries) (mail ∷ [])) ∙ ap (flat_map trees) (sym (pending_accept r entries number file new fresh))) i))
    (sym (flat_map_append trees (roots_from r 0 entries) (mail ∷ []))
    ∙ ap (flat_map trees) (sym (roots_append r 0 entries (entry ∷ []) ∙ ap (λ e. roots_from r 0 entries ++ r.first e number new ∷ []) (omega arith))))
    (IsPermutation-append_left one (facts entries ++ waiting) started joined)

-- (a ++ p) ++ (b ++ c) has what a ++ ((p ++ c) ++ b) has
regroup : (a p b c : List Placed) → IsPermutation (a ++ ((p ++ c) ++ b)) ((a ++ p) ++ (b ++ c))
regroup a p b c =
    same_lists (a ++ (p ++ (c ++ b))) (a ++ (p ++ (b ++ c))) (a ++ ((p ++ c) ++ b)) ((a ++ p) ++ (b ++ c))
    (ap (λ xs. a ++ xs) (sym (append_assoc p c b))) (sym (append_assoc a p (b ++ c)))
    (IsPermutation-append_right a (p ++ (c ++ b)) (p ++ (b ++ c)) (IsPermutation-append_right p (c ++ b) (b ++ c) (IsPermutation-append_comm c b)))

joined_done : (r : Meanings) (trees : Mail
    → List Placed) (entries : List Entry) (mail : Mail) (name : Name) (replies : List Reply) (outcome : Outcome) → Holds r entries
    → Steps r entries name outcome
    → Has (pending r entries) mail → mail.name ≡ name → trees mail ≡ placed name outcome.facts ++ flat_map trees outcome.children
    → IsJoined r trees entries → IsJoined r trees (entries ++ Done name replies outcome ∷ [])
joined_done r trees entries mail name replies outcome holds steps has is unfolds joined =
    let entry = Done name replies outcome in
    let after = entries ++ entry ∷ [] in
    let before = facts entries in
    let own = placed name outcome.facts in
    let others = flat_map trees (without name (pending r entries)) in
    let below = flat_map trees outcome.children in
    let started = flat_map trees (roots_from r 0 entries) in
    let out : IsPermutation (flat_map trees (pending r entries)) ((own ++ below) ++ others) =
    subst (λ n. IsPermutation (flat_map trees (pending r entries)) ((own ++ below) ++ flat_map trees (without n (pending r entries)))) is
    (subst (λ t. IsPermutation (flat_map trees (pending r entries)) (t ++ flat_map trees (without mail.name (pending r entries)))) unfolds
    (take_out trees (pending r entries) mail (apart_filter (λ m. not (is_done entries m.name)) (births r entries) holds.apart) has)) in
    let moved : IsPermutation (before ++ flat_map trees (pending r entries)) ((before ++ own) ++ (others ++ below)) =
    IsPermutation-trans (before ++ flat_map trees (pending r entries)) (before ++ ((own ++ below) ++ others)) ((before ++ own) ++ (others ++ below))
    (IsPermutation-append_right before (flat_map trees (pending r entries)) ((own ++ below) ++ others) out) (regroup before own others below) in
    same_lists ((before ++ own) ++ (others ++ below)) started (facts after ++ flat_map trees (pending r after)) (flat_map trees (roots_from r 0 after))
    (λ i. sym (facts_append entries (entry ∷ []) ∙ ap (λ xs. before ++ xs) (append-nil own)) i
    ++ (sym (flat_map_append trees (without name (pending r entries)) outcome.children) ∙ ap (flat_map trees)
    (sym (pending_done r entries name replies outcome (children_fresh r entries name replies outcome holds steps)))) i)
    (ap (flat_map trees) (sym (roots_append r 0 entries (entry ∷ []) ∙ append-nil (roots_from r 0 entries))))
    (IsPermutation-trans ((before ++ own) ++ (others ++ below)) (before ++ flat_map trees (pending r entries)) started
    (IsPermutation-sym (before ++ flat_map trees (pending r entries)) ((before ++ own) ++ (others ++ below)) moved) joined)

-- the tree of a mail that has its Done entry: the facts of that entry, and the trees of its children
pub tree_of_done : (r : Meanings) → Laws r → (before after : List Entry) (mail : Mail) (name : Name) (replies : List Reply) (outcome : Outcome)
    → is_done before name ≡ false → mail.name ≡ name → r.sound (epochs before) mail ≡ true → outcome ≡ outcome_at r (epochs before) mail
    → tree r (before ++ Done name replies outcome ∷ after) mail ≡ placed name outcome.facts ++ flat_map
    (tree r (before ++ Done name replies outcome ∷ after)) outcome.children
tree_of_done r laws before after mail name replies outcome waiting is sound stepped =
    let entries = before ++ Done name replies outcome ∷ after in
    let when : era entries mail.name ≡ epochs before = ap (era entries) is ∙ era_at_done before after name replies outcome waiting in
    let same : step_in r entries mail ≡ outcome =
    step_sound r laws entries mail (ap (λ e. r.sound e mail) when ∙ sound) ∙ (ap (λ e. outcome_at r e mail) when ∙ sym stepped) in
    tree_unfolds r laws entries mail
    ∙ (λ i. placed (is i) (same i).facts ++ flat_map (tree r entries) (same i).children)

abbrev pub Reaches : Meanings → (Mail → List Placed) → List Entry → Type 0
Reaches r trees entries = Holds r entries × IsJoined r trees entries

pub reaches : (r : Meanings) → Laws r → (entries before rest : List Entry) → entries ≡ before ++ rest → Reaches r (tree r entries) before
    → AreLawfulBehind r before rest → Reaches r (tree r entries) entries
reaches r laws entries before [] is so_far lawful = subst (Reaches r (tree r entries)) (sym (is ∙ append-nil before)) so_far
reaches r laws entries before (Setup plan ∷ rest) is so_far lawful =
    reaches r laws entries (before ++ Setup plan ∷ []) rest (is ∙ sym (append_assoc before (Setup plan ∷ []) rest))
    (holds_setup r before plan so_far.0 lawful.0, joined_setup r (tree r entries) before plan so_far.1) lawful.1
reaches r laws entries before (Accept number file new ∷ rest) is so_far lawful =
    reaches r laws entries (before ++ Accept number file new ∷ []) rest (is ∙ sym (append_assoc before (Accept number file new ∷ []) rest)) (
      holds_accept r laws before number file new so_far.0 lawful.0,
      joined_accept r (tree r entries) before number file new (accepted_fresh r laws before number file new so_far.0 lawful.0) so_far.1,
    ) lawful.1
reaches r laws entries before (Done name replies outcome ∷ rest) is so_far lawful =
    let fits = lawful.0 in
    let mail = fits.mail in
    let steps = steps_of r laws before name replies outcome so_far.0 fits in
    let sound = all_has (λ m. r.sound (epochs before) m ≡ true) (pending r before) mail so_far.0.sound fits.waits in
    let unfolds : tree r entries mail ≡ placed name outcome.facts ++ flat_map (tree r entries) outcome.children =
    subst (λ es. tree r es mail ≡ placed name outcome.facts ++ flat_map (tree r es) outcome.children) (sym is)
    (tree_of_done r laws before rest mail name replies outcome steps.waiting fits.named sound fits.stepped) in
    reaches r laws entries (before ++ Done name replies outcome ∷ []) rest (is ∙ sym (append_assoc before (Done name replies outcome ∷ []) rest)) (
      holds_done r before name replies outcome so_far.0 steps,
      joined_done r (tree r entries) before mail name replies outcome so_far.0 steps fits.waits fits.named unfolds so_far.1,
    ) lawful.1

pub reached : (r : Meanings) → Laws r → (entries : List Entry) → AreLawful r entries → Reaches r (tree r entries) entries
reached r laws entries lawful = reaches r laws entries [] entries refl (holds_at_first r, IsPermutation-refl []) lawful

zero_and : (n : ℕ) → 0 + n ≡ n
zero_and n = omega arith

-- the trees of the first mails are the meaning of what was accepted
pub meaning_is : (r : Meanings) (entries : List Entry) → AreCountedFrom 1 (accepted entries)
    → flat_map (tree r entries) (roots_from r 0 entries) ≡ meaning r entries (accepted entries)
meaning_is r entries counted =
    ap (flat_map (tree r entries))
    (roots_are r 0 1 entries counted ∙ (λ i. map (λ (a : ℕ × NewMail). r.first (zero_and (source entries a.0) i) a.0 a.1) (accepted entries)))
    ∙ flat_map-map (tree r entries) (λ (a : ℕ × NewMail). r.first (source entries a.0) a.0 a.1) (accepted entries)

-- the trees of the first mails are in the order of places
pub meaning_in_order : (r : Meanings) → Laws r → (entries : List Entry) → AreCountedFrom 1 (accepted entries)
    → AreInOrder (flat_map (tree r entries) (roots_from r 0 entries))
unfolding gather
meaning_in_order r laws entries counted =
    firsts_in_order (tree r entries)
    (λ mail. tree_under (step_in r entries) (step_named r laws entries) (suc (r.measure mail)) mail)
    (λ mail. tree_in_order (step_in r entries) (step_named r laws entries) (suc (r.measure mail)) mail)
    1 (roots_from r 0 entries) (roots_named r laws 0 1 entries counted)

pub lawful_is_cut : (r : Meanings) → Laws r → (entries : List Entry) → AreLawful r entries → IsCut r entries
lawful_is_cut r laws entries lawful =
    let held = reached r laws entries lawful in
    let means = meaning_is r entries held.0.counted in
    record {
      joined = subst (IsPermutation (known_and_due r entries)) means held.1;
      ordered = subst AreInOrder means (meaning_in_order r laws entries held.0.counted);
    }

pub lawful_cut : (r : Meanings) → Laws r → (entries : List Entry) → AreLawful r entries → IsCutExactly r entries
lawful_cut r laws entries lawful =
    let cut = lawful_is_cut r laws entries lawful in
    sorted_is (known_and_due r entries) (meaning r entries (accepted entries)) cut.joined cut.ordered

-- with nothing pending, the facts in order are the meaning
pub done_is_meaning : (r : Meanings) → Laws r → (entries : List Entry) → AreLawful r entries → pending r entries ≡ []
    → in_order (facts entries) ≡ meaning r entries (accepted entries)
done_is_meaning r laws entries lawful none =
    ap in_order (sym (ap (λ ms. facts entries ++ flat_map (tree r entries) ms) none ∙ append-nil (facts entries))) ∙ lawful_cut r laws entries lawful

-- ---- One entry more

pub lawful_more : (r : Meanings) (before entries : List Entry) (entry : Entry) → AreLawfulBehind r before entries → Fits r (before ++ entries) entry
    → AreLawfulBehind r before (entries ++ entry ∷ [])
lawful_more r before [] entry h fits = (subst (λ es. Fits r es entry) (append-nil before) fits, tt)
lawful_more r before (e ∷ entries) entry h fits =
    (h.0, lawful_more r (before ++ e ∷ []) entries entry h.1 (subst (λ es. Fits r es entry) (sym (append_assoc before (e ∷ []) entries)) fits))

-- a front of a lawful list is lawful
pub lawful_front : (r : Meanings) (before entries more : List Entry) → AreLawfulBehind r before (entries ++ more) → AreLawfulBehind r before entries
lawful_front r before [] more h = tt
lawful_front r before (e ∷ entries) more h = (h.0, lawful_front r (before ++ e ∷ []) entries more h.1)
