-- What two lists of entries say, one behind the other.
use Rattle.std.proofs.Common.{◌≡◌, ℕ, suc, ◌+◌, ◌<◌, ◌≤◌, Bool, true, false, ◌||◌, ◌==◌, List, [], ◌∷◌, ◌++◌, map, length, refl, sym, ap, ◌∙◌, arith, append_assoc, if◌then◌else◌}
use Rattle.std.specs.List.{AllByRecursion}
use Rattle.std.proofs.lemmas.Bool.Decides.{nat_tests}
use Rattle.mj_mail.specs.declared.entry.Entry.{Entry}
use Rattle.mj_mail.specs.declared.entry.Entry.TheVariants.{Setup, Accept, Done}
use Rattle.mj_mail.specs.declared.fact.Outcome.{Outcome}
use Rattle.mj_mail.specs.declared.mail.Mail.{Mail}
use Rattle.mj_mail.specs.declared.mail.NewMail.{NewMail}
use Rattle.mj_mail.specs.declared.name.Name.{Name}
use Rattle.mj_mail.specs.declared.reply.Reply.{Reply}
use Rattle.mj_mail.specs.Meaning.{placed}
use Rattle.mj_mail.specs.Name.{first_name}
use Rattle.mj_lawful.specs.Configurations.{Meanings, Laws}
use Rattle.mj_lawful.specs.Entries.{epochs, era, source, accepted, facts, is_done, births_from}
use Rattle.mj_lawful.specs.Places.{same_name}
use Rattle.mj_lawful.proofs.Lists.{all_weaker}
use Rattle.mj_lawful.proofs.Names.{same_itself}
use Rattle.mj_lawful.proofs.Order.{AreFirstFrom}

pub epochs_append : (xs ys : List Entry) → epochs (xs ++ ys) ≡ epochs xs + epochs ys
epochs_append [] ys = omega arith
epochs_append (Setup plan ∷ xs) ys = let h = epochs_append xs ys in omega arith
epochs_append (Accept number file new ∷ xs) ys = epochs_append xs ys
epochs_append (Done name replies outcome ∷ xs) ys = epochs_append xs ys

pub accepted_append : (xs ys : List Entry) → accepted (xs ++ ys) ≡ accepted xs ++ accepted ys
accepted_append [] ys = refl
accepted_append (Setup plan ∷ xs) ys = accepted_append xs ys
accepted_append (Accept number file new ∷ xs) ys = ap (λ mails. (number, new) ∷ mails) (accepted_append xs ys)
accepted_append (Done name replies outcome ∷ xs) ys = accepted_append xs ys

pub facts_append : (xs ys : List Entry) → facts (xs ++ ys) ≡ facts xs ++ facts ys
facts_append [] ys = refl
facts_append (Setup plan ∷ xs) ys = facts_append xs ys
facts_append (Accept number file new ∷ xs) ys = facts_append xs ys
facts_append (Done name replies outcome ∷ xs) ys =
    ap (λ zs. placed name outcome.facts ++ zs) (facts_append xs ys) ∙ sym (append_assoc (placed name outcome.facts) (facts xs) (facts ys))

or_assoc : (a b c : Bool) → (a || (b || c)) ≡ ((a || b) || c)
or_assoc true b c = refl
or_assoc false b c = refl

pub or_false : (a b : Bool) → (a || b) ≡ false → (a ≡ false) × (b ≡ false)
or_false true b h = cc
or_false false b h = (refl, h)

pub is_done_append : (xs ys : List Entry) (name : Name) → is_done (xs ++ ys) name ≡ (is_done xs name || is_done ys name)
is_done_append [] ys name = refl
is_done_append (Setup plan ∷ xs) ys name = is_done_append xs ys name
is_done_append (Accept number file new ∷ xs) ys name = is_done_append xs ys name
is_done_append (Done done replies outcome ∷ xs) ys name =
    ap (λ b. same_name done name || b) (is_done_append xs ys name) ∙ or_assoc (same_name done name) (is_done xs name) (is_done ys name)

pub births_append : (r : Meanings) (epoch : ℕ) (xs ys : List Entry)
    → births_from r epoch (xs ++ ys) ≡ births_from r epoch xs ++ births_from r (epoch + epochs xs) ys
births_append r epoch [] ys = ap (λ n. births_from r n ys) (omega arith)
births_append r epoch (Setup plan ∷ xs) ys = births_append r (suc epoch) xs ys ∙ ap (λ n. births_from r (suc epoch) xs ++ births_from r n ys) (omega arith)
births_append r epoch (Accept number file new ∷ xs) ys = ap (λ ms. r.first epoch number new ∷ ms) (births_append r epoch xs ys)
births_append r epoch (Done name replies outcome ∷ xs) ys =
    ap (λ ms. outcome.children ++ ms) (births_append r epoch xs ys) ∙ sym
    (append_assoc outcome.children (births_from r epoch xs) (births_from r (epoch + epochs xs) ys))

-- the first mail of each Accept entry by the configuration in force at it, where `epoch` is in force before them
abbrev pub roots_from : Meanings → ℕ → List Entry → List Mail
roots_from r epoch [] = []
roots_from r epoch (Setup plan ∷ entries) = roots_from r (suc epoch) entries
roots_from r epoch (Accept number file new ∷ entries) = r.first epoch number new ∷ roots_from r epoch entries
roots_from r epoch (Done name replies outcome ∷ entries) = roots_from r epoch entries

pub roots_append : (r : Meanings) (epoch : ℕ) (xs ys : List Entry)
    → roots_from r epoch (xs ++ ys) ≡ roots_from r epoch xs ++ roots_from r (epoch + epochs xs) ys
roots_append r epoch [] ys = ap (λ n. roots_from r n ys) (omega arith)
roots_append r epoch (Setup plan ∷ xs) ys = roots_append r (suc epoch) xs ys ∙ ap (λ n. roots_from r (suc epoch) xs ++ roots_from r n ys) (omega arith)
roots_append r epoch (Accept number file new ∷ xs) ys = ap (λ ms. r.first epoch number new ∷ ms) (roots_append r epoch xs ys)
roots_append r epoch (Done name replies outcome ∷ xs) ys = roots_append r epoch xs ys

-- the first Done entry of a name says its era
pub era_at_done : (before after : List Entry) (name : Name) (replies : List Reply) (outcome : Outcome) → is_done before name ≡ false
    → era (before ++ Done name replies outcome ∷ after) name ≡ epochs before
era_at_done [] after name replies outcome h = ap (λ b. if b then 0 else era after name) (same_itself name)
era_at_done (Setup plan ∷ before) after name replies outcome h = ap suc (era_at_done before after name replies outcome h)
era_at_done (Accept number file new ∷ before) after name replies outcome h = era_at_done before after name replies outcome h
era_at_done (Done done others other ∷ before) after name replies outcome h =
    let p = or_false (same_name done name) (is_done before name) h in
    ap (λ b. if b then 0 else era (before ++ Done name replies outcome ∷ after) name) p.0 ∙ era_at_done before after name replies outcome p.1

-- a name without a Done entry has the last era
pub era_of_pending : (entries : List Entry) (name : Name) → is_done entries name ≡ false → era entries name ≡ epochs entries
era_of_pending [] name h = refl
era_of_pending (Setup plan ∷ entries) name h = ap suc (era_of_pending entries name h)
era_of_pending (Accept number file new ∷ entries) name h = era_of_pending entries name h
era_of_pending (Done done replies outcome ∷ entries) name h =
    let p = or_false (same_name done name) (is_done entries name) h in
    ap (λ b. if b then 0 else era entries name) p.0 ∙ era_of_pending entries name p.1

-- numbers from k on, one after the other
abbrev pub AreCountedFrom : ℕ → List (ℕ × NewMail) → Type 0
AreCountedFrom k [] = Unit {0}
AreCountedFrom k (a ∷ mails) = (a.0 ≡ k) × AreCountedFrom (suc k) mails

counted_above : (k : ℕ) (mails : List (ℕ × NewMail)) → AreCountedFrom k mails → AllByRecursion (λ a. k ≤ a.0) mails
counted_above k [] h = tt
counted_above k (a ∷ mails) h =
    ((let e : a.0 ≡ k = h.0 in omega arith), all_weaker (λ b. suc k ≤ b.0) (λ b. k ≤ b.0) (λ b le. omega arith) mails (counted_above (suc k) mails h.1))

map_same : {X Y : Type 0} (f g : X → Y) (xs : List X) → AllByRecursion (λ x. f x ≡ g x) xs → map f xs ≡ map g xs
map_same f g [] h = refl
map_same f g (x ∷ xs) h = λ i. h.0 i ∷ map_same f g xs h.1 i

pub all_always : {X : Type 0} (P : X → Type 0) → ((x : X) → P x) → (xs : List X) → AllByRecursion P xs
all_always P f [] = tt
all_always P f (x ∷ xs) = (f x, all_always P f xs)

source_here : (epoch n other : ℕ) → epoch ≡ epoch + (if n == n then 0 else other)
source_here epoch n other = grind (arith, nat_tests)

source_there : (n m other : ℕ) → n < m → other ≡ (if n == m then 0 else other)
source_there n m other h = grind (arith, nat_tests)

-- the first mails by `source` are those by the configuration in force at the entry
pub roots_are : (r : Meanings) (epoch k : ℕ) (entries : List Entry) → AreCountedFrom k (accepted entries)
    → roots_from r epoch entries ≡ map (λ (a : ℕ × NewMail). r.first (epoch + source entries a.0) a.0 a.1) (accepted entries)
roots_are r epoch k [] h = refl
roots_are r epoch k (Setup plan ∷ entries) h =
    roots_are r (suc epoch) k entries h
    ∙ map_same (λ (a : ℕ × NewMail). r.first (suc epoch + source entries a.0) a.0 a.1)
    (λ (a : ℕ × NewMail). r.first (epoch + suc (source entries a.0)) a.0 a.1) (accepted entries)
    (all_always (λ (a : ℕ × NewMail). r.first (suc epoch + source entries a.0) a.0 a.1 ≡ r.first (epoch + suc (source entries a.0)) a.0 a.1)
    (λ a. ap (λ n. r.first n a.0 a.1) (omega arith)) (accepted entries))
roots_are r epoch k (Accept number file new ∷ entries) h =
    let head : r.first epoch number new ≡ r.first (epoch + (if number == number then 0 else source entries number)) number new =
    ap (λ n. r.first n number new) (source_here epoch number (source entries number)) in
    let rest : roots_from r epoch entries ≡ map (λ (a : ℕ × NewMail). r.first (epoch + (if number == a.0 then 0 else source entries a.0)) a.0 a.1)
    (accepted entries) =
    roots_are r epoch (suc k) entries h.1
    ∙ map_same (λ (a : ℕ × NewMail). r.first (epoch + source entries a.0) a.0 a.1)
    (λ (a : ℕ × NewMail). r.first (epoch + (if number == a.0 then 0 else source entries a.0)) a.0 a.1) (accepted entries)
    (all_weaker (λ a. suc k ≤ a.0) (λ (a : ℕ × NewMail). r.first (epoch + source entries a.0) a.0 a.1 ≡ r.first
    (epoch + (if number == a.0 then 0 else source entries a.0)) a.0 a.1)
    (λ a le. ap (λ n. r.first (epoch + n) a.0 a.1) (source_there number a.0 (source entries a.0) (let e : number ≡ k = h.0 in omega arith)))
    (accepted entries) (counted_above (suc k) (accepted entries) h.1)) in
    λ i. head i ∷ rest i
roots_are r epoch k (Done name replies outcome ∷ entries) h = roots_are r epoch k entries h

-- they have the names of first mails
pub roots_named : (r : Meanings) → Laws r → (epoch k : ℕ) (entries : List Entry) → AreCountedFrom k (accepted entries)
    → AreFirstFrom k (roots_from r epoch entries)
roots_named r laws epoch k [] h = tt
roots_named r laws epoch k (Setup plan ∷ entries) h = roots_named r laws (suc epoch) k entries h
roots_named r laws epoch k (Accept number file new ∷ entries) h =
    (laws.first_named epoch number new ∙ ap first_name h.0, roots_named r laws epoch (suc k) entries h.1)
roots_named r laws epoch k (Done name replies outcome ∷ entries) h = roots_named r laws epoch k entries h

pub counted_append : (k : ℕ) (mails : List (ℕ × NewMail)) (a : ℕ × NewMail) → AreCountedFrom k mails → a.0 ≡ k + length mails
    → AreCountedFrom k (mails ++ a ∷ [])
counted_append k [] a h e = (e ∙ (omega arith), tt)
counted_append k (b ∷ mails) a h e = (h.0, counted_append (suc k) mails a h.1 (e ∙ (omega arith)))
