-- The laws of one kind of rules are those of all configurations that have such rules.
use Rattle.std.proofs.Common.{◌≡◌, ℕ, ◌<◌, Bool, true, List, Option}
use Rattle.std.specs.List.{AllByRecursion, list_all}
use Rattle.mj_mail.specs.declared.fact.Outcome.{Outcome}
use Rattle.mj_mail.specs.declared.mail.Mail.{Mail}
use Rattle.mj_mail.specs.declared.mail.NewMail.{NewMail}
use Rattle.mj_mail.specs.declared.reply.Reply.{Reply}
use Rattle.mj_mail.specs.Name.{first_name}
use Rattle.mj_mail.specs.Rules.{AreNumbered, Replying, is_acceptable, replies_to}
use Rattle.mj_lawful.specs.Configurations.{Follow, Laws, meanings_of}

module _ {R : Type 0} (first_of : R → ℕ → NewMail → Mail) (reply_of : R → Replying) (outcome_of : R → Mail → List Reply → Outcome)
    (is_sound is_allowed : R → Mail → Bool) (measure : Mail → ℕ) (plan : ℕ → Option (List ℕ)) (rules : ℕ → R) (start : ℕ → ℕ) where
  pub laws_of : ((r : R) (number : ℕ) (new : NewMail) → (first_of r number new).name ≡ first_name number)
      → ((r : R) (number : ℕ) (new : NewMail) → is_acceptable new ≡ true → is_sound r (first_of r number new) ≡ true)
      → ((r : R) (mail : Mail) → is_sound r mail ≡ true → AreNumbered mail.name 1 (outcome_of r mail (replies_to (reply_of r) mail)).children)
      → ((r : R) (mail : Mail) → is_sound r mail ≡ true → list_all (is_sound r) (outcome_of r mail (replies_to (reply_of r) mail)).children ≡ true)
      → ((r : R) (mail : Mail) → is_sound r mail ≡ true
      → AllByRecursion (λ child. measure child < measure mail) (outcome_of r mail (replies_to (reply_of r) mail)).children)
      → Laws (meanings_of first_of reply_of outcome_of is_sound is_allowed measure plan rules start)
  laws_of first_named first_sound children_named children_sound falls = record {
    first_named = λ epoch. first_named (rules epoch);
    first_sound = λ epoch. first_sound (rules epoch);
    children_named = λ epoch. children_named (rules epoch);
    children_sound = λ epoch. children_sound (rules epoch);
    falls = λ epoch. falls (rules epoch);
  }

  pub follow_of : ((r : R) (mail : Mail) → is_sound r mail ≡ true → is_allowed r mail ≡ true)
      → ((r other : R) (mail : Mail) → is_sound r mail ≡ true → is_allowed other mail ≡ true → is_sound other mail ≡ true)
      → Follow (meanings_of first_of reply_of outcome_of is_sound is_allowed measure plan rules start)
  follow_of sound_allowed allowed_sound = record {
    sound_allowed = λ epoch. sound_allowed (rules epoch);
    allowed_sound = λ epoch other. allowed_sound (rules epoch) (rules other);
  }
