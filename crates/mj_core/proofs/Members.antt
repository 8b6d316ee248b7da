-- What configurations mean by the members of their list, and that they keep the laws of their rules.
use Rattle.std.proofs.Common.{◌≡◌, ℕ, zero, suc, ◌<◌, Bool, true, List, [], ◌∷◌, length, Some, None, refl, arith}
use Rattle.std.specs.List.{AllByRecursion, list_all}
use Rattle.mj_mail.specs.declared.entry.Entry.{Entry}
use Rattle.mj_mail.specs.declared.entry.Entry.TheVariants.{Setup, Accept, Done}
use Rattle.mj_mail.specs.declared.mail.Mail.{Mail}
use Rattle.mj_mail.specs.declared.mail.NewMail.{NewMail}
use Rattle.mj_mail.specs.declared.rules.Rules.{Ghosts}
use Rattle.mj_mail.specs.Name.{first_name}
use Rattle.mj_mail.specs.Meaning.{meaning as meaning_by}
use Rattle.mj_mail.specs.Rules.{AreNumbered, is_acceptable, replies_to, step_by}
use Rattle.mj_lawful.specs.Configurations.{Follow, Laws}
use Rattle.mj_lawful.specs.Entries.{epochs, era, source}
use Rattle.mj_lawful.specs.Lawful.{AreLawfulBehind, meaning}
use Rattle.mj_lawful.proofs.Laws.{follow_of, laws_of}
use Rattle.mj_core.specs.declared.epoch.Epoch.{Epoch}
use Rattle.mj_core.specs.Epochs.{first_plan, meanings, member, of_none, plan_of}
use Rattle.mj_core.specs.Held.{Held, IsOf}

-- ---- No configurations

laws_of_none : (measure : Mail → ℕ) → Laws (of_none measure)
laws_of_none measure = record {
  first_named = λ epoch number new. refl;
  first_sound = λ epoch number new acceptable. refl;
  children_named = λ epoch mail sound. tt;
  children_sound = λ epoch mail sound. refl;
  falls = λ epoch mail sound. tt;
}

follow_of_none : (measure : Mail → ℕ) → Follow (of_none measure)
follow_of_none measure = record { sound_allowed = λ epoch mail sound. refl; allowed_sound = λ epoch other mail sound allowed. refl }

none_begun : (measure : Mail → ℕ) (before entries : List Entry) → AreLawfulBehind (of_none measure) before entries → epochs entries ≡ 0
none_begun measure before [] h = refl
none_begun measure before (Setup plan ∷ entries) h = let none : None ≡ Some plan = h.0.next in cc
none_begun measure before (Accept number file new ∷ entries) h = none_begun measure _ entries h.1
none_begun measure before (Done name replies outcome ∷ entries) h = none_begun measure _ entries h.1

-- ---- A list of them

pub split : {X : Type 0} (xs : List X) → 0 < length xs → (head : X) × (others : List X) × (xs ≡ head ∷ others)
split [] some = absurd (let never : 0 < 0 = some in omega arith)
split (head ∷ others) some = (head, others, refl)

member_alone : {R : Type 0} (head : Epoch R) (number : ℕ) → member head [] number ≡ head
member_alone head zero = refl
member_alone head (suc zero) = refl
member_alone head (suc (suc k)) = refl

module _ {R : Type 0} (rules : Ghosts R) (is_allowed : R → Mail → Bool) where
  -- the first configuration of a list that isn't empty
  pub plan_first : (list : List (Epoch R)) → 0 < length list → (meanings rules is_allowed list).plan 1 ≡ Some (first_plan list)
  plan_first [] some = absurd (let never : 0 < 0 = some in omega arith)
  plan_first (head ∷ others) some = refl

  -- the laws of the rules are those of the configurations
  pub laws_of_list : ((r : R) (number : ℕ) (new : NewMail) → (rules.first_of r number new).name ≡ first_name number)
      → ((r : R) (number : ℕ) (new : NewMail) → is_acceptable new ≡ true → rules.is_sound r (rules.first_of r number new) ≡ true)
      → ((r : R) (mail : Mail) → rules.is_sound r mail ≡ true
      → AreNumbered mail.name 1 (rules.outcome_of r mail (replies_to (rules.reply_of r) mail)).children)
      → ((r : R) (mail : Mail) → rules.is_sound r mail ≡ true
      → list_all (rules.is_sound r) (rules.outcome_of r mail (replies_to (rules.reply_of r) mail)).children ≡ true)
      → ((r : R) (mail : Mail) → rules.is_sound r mail ≡ true
      → AllByRecursion (λ child. rules.measure child < rules.measure mail) (rules.outcome_of r mail (replies_to (rules.reply_of r) mail)).children)
      → (list : List (Epoch R)) → Laws (meanings rules is_allowed list)
  laws_of_list first_named first_sound children_named children_sound falls [] = laws_of_none rules.measure
  laws_of_list first_named first_sound children_named children_sound falls (head ∷ others) =
      laws_of rules.first_of rules.reply_of rules.outcome_of rules.is_sound is_allowed rules.measure
      (plan_of (head ∷ others)) (λ number. (member head others number).rules) (λ number. (member head others number).start)
      first_named first_sound children_named children_sound falls

  pub follow_of_list : ((r : R) (mail : Mail) → rules.is_sound r mail ≡ true → is_allowed r mail ≡ true)
      → ((r other : R) (mail : Mail) → rules.is_sound r mail ≡ true → is_allowed other mail ≡ true → rules.is_sound other mail ≡ true)
      → (list : List (Epoch R)) → Follow (meanings rules is_allowed list)
  follow_of_list sound_allowed allowed_sound [] = follow_of_none rules.measure
  follow_of_list sound_allowed allowed_sound (head ∷ others) =
      follow_of rules.first_of rules.reply_of rules.outcome_of rules.is_sound is_allowed rules.measure
      (plan_of (head ∷ others)) (λ number. (member head others number).rules) (λ number. (member head others number).start) sound_allowed allowed_sound

  -- where a machine has begun there is a first configuration
  pub some_of : (list : List (Epoch R)) (held : Held) → IsOf (meanings rules is_allowed list) held → 0 < length list
  some_of [] held is_of =
      let none : epochs held.machine.entries ≡ 0 = none_begun rules.measure [] held.machine.entries is_of.lawful in
      let begun : 0 < epochs held.machine.entries = is_of.begun in
      absurd (omega arith)
  some_of (head ∷ others) held is_of = omega arith

  -- one configuration alone is the same under each number
  pub alone : (epoch : Epoch R) (entries : List Entry) (mails : List (ℕ × NewMail))
      → meaning (meanings rules is_allowed (epoch ∷ [])) entries mails
      ≡ meaning_by (rules.first_of epoch.rules) rules.measure (step_by rules.is_sound rules.reply_of rules.outcome_of epoch.rules) mails
  alone epoch entries mails = λ i.
      meaning_by (λ number new. rules.first_of (member_alone epoch (source entries number) i).rules number new) rules.measure
      (λ mail. step_by rules.is_sound rules.reply_of rules.outcome_of (member_alone epoch (era entries mail.name) i).rules mail) mails
