-- Entries among which there is no Setup entry leave the meaning as it is: what was accepted means the same by the entries
-- before them. So a report may be told from the entries that stood there when it was begun.
use Rattle.std.proofs.Common.{◌≡◌, ◌==◌, ℕ, suc, ◌≤◌, Bool, true, false, List, [], ◌∷◌, ◌++◌, if◌then◌else◌, ap, arith}
use Rattle.mj_mail.specs.declared.entry.Entry.{Entry}
use Rattle.mj_mail.specs.declared.entry.Entry.TheVariants.{Setup, Accept, Done}
use Rattle.mj_mail.specs.declared.mail.NewMail.{NewMail}
use Rattle.mj_mail.specs.declared.name.Name.{Name}
use Rattle.mj_mail.specs.Meaning.{meaning as meaning_by}
use Rattle.mj_mail.specs.Rules.{step_by}
use Rattle.mj_lawful.specs.Configurations.{Meanings}
use Rattle.mj_lawful.specs.Entries.{epochs, era, source}
use Rattle.mj_lawful.specs.Lawful.{meaning, step_in}
use Rattle.mj_lawful.specs.Places.{same_name}

least_by : (b : Bool) (n k : ℕ) → n ≤ k → (if b then 0 else n) ≤ k
least_by true n k below = omega arith
least_by false n k below = below

era_within : (entries : List Entry) (name : Name) → era entries name ≤ epochs entries
era_within [] name = omega arith
era_within (Setup plan ∷ entries) name = let rest = era_within entries name in omega arith
era_within (Accept number file new ∷ entries) name = era_within entries name
era_within (Done done replies outcome ∷ entries) name = least_by (same_name done name) (era entries name) (epochs entries) (era_within entries name)

source_within : (entries : List Entry) (number : ℕ) → source entries number ≤ epochs entries
source_within [] number = omega arith
source_within (Setup plan ∷ entries) number = let rest = source_within entries number in omega arith
source_within (Accept first file new ∷ entries) number =
    least_by (first == number) (source entries number) (epochs entries) (source_within entries number)
source_within (Done done replies outcome ∷ entries) number = source_within entries number

era_stays : (before after : List Entry) (name : Name) → epochs after ≡ 0 → era (before ++ after) name ≡ era before name
era_stays [] after name none = let within = era_within after name in omega arith
era_stays (Setup plan ∷ before) after name none = ap suc (era_stays before after name none)
era_stays (Accept number file new ∷ before) after name none = era_stays before after name none
era_stays (Done done replies outcome ∷ before) after name none = ap (λ n. if same_name done name then 0 else n) (era_stays before after name none)

source_stays : (before after : List Entry) (number : ℕ) → epochs after ≡ 0 → source (before ++ after) number ≡ source before number
source_stays [] after number none = let within = source_within after number in omega arith
source_stays (Setup plan ∷ before) after number none = ap suc (source_stays before after number none)
source_stays (Accept first file new ∷ before) after number none = ap (λ n. if first == number then 0 else n) (source_stays before after number none)
source_stays (Done done replies outcome ∷ before) after number none = source_stays before after number none

step_stays : (r : Meanings) (before after : List Entry) → epochs after ≡ 0 → step_in r (before ++ after) ≡ step_in r before
step_stays r before after none = λ i mail. step_by r.sound r.reply r.step (era_stays before after mail.name none i) mail

pub meaning_stays : (r : Meanings) (before after : List Entry) (mails : List (ℕ × NewMail)) → epochs after ≡ 0
    → meaning r (before ++ after) mails ≡ meaning r before mails
meaning_stays r before after mails none = λ i.
    meaning_by (λ number new. r.first (source_stays before after number none i) number new) r.measure (step_stays r before after none i) mails
