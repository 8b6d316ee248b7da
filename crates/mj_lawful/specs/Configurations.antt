-- Configurations that follow one another, and what each makes of mails. A configuration goes by its number, from 1.
use Rattle.std.specs.Prelude.{◌≡◌, ℕ, ◌<◌, Bool, true, List, Option}
use Rattle.std.specs.List.{AllByRecursion, list_all}
use Rattle.mj_mail.specs.declared.fact.Outcome.{Outcome}
use Rattle.mj_mail.specs.declared.mail.Mail.{Mail}
use Rattle.mj_mail.specs.declared.mail.NewMail.{NewMail}
use Rattle.mj_mail.specs.declared.reply.Reply.{Reply}
use Rattle.mj_mail.specs.Name.{first_name}
use Rattle.mj_mail.specs.Rules.{AreNumbered, Replying, is_acceptable, replies_to}

-- what the configurations mean, each by its number
pub record Meanings : Type 0 where
  -- the bytes of the configuration, if there is one of this number
  pub plan : ℕ → Option (List ℕ)
  -- the mail that a new one becomes under the number of its acceptance
  pub first : ℕ → ℕ → NewMail → Mail
  -- what hosts answer
  pub reply : ℕ → Replying
  -- what one step makes of a mail by these replies
  pub step : ℕ → Mail → List Reply → Outcome
  -- a mail that the configuration can carry
  pub sound : ℕ → Mail → Bool
  -- a mail whose stage the configuration has
  pub allows : ℕ → Mail → Bool
  -- how far a mail may still go, whatever the configuration
  pub measure : Mail → ℕ
  -- the moment at which the configuration begins
  pub start : ℕ → ℕ

-- what one step of the configuration makes of a mail, by what its hosts answer
abbrev pub outcome_at : Meanings → ℕ → Mail → Outcome
outcome_at r epoch mail = r.step epoch mail (replies_to (r.reply epoch) mail)

-- What each configuration owes.
pub record Laws (r : Meanings) : Type 0 where
  -- a first mail has the number and no path, and is sound
  pub first_named : (epoch number : ℕ) (new : NewMail) → (r.first epoch number new).name ≡ first_name number
  pub first_sound : (epoch number : ℕ) (new : NewMail) → is_acceptable new ≡ true → r.sound epoch (r.first epoch number new) ≡ true
  -- each child of a step is named by its number, is sound, and may go less far
  pub children_named : (epoch : ℕ) (mail : Mail) → r.sound epoch mail ≡ true → AreNumbered mail.name 1 (outcome_at r epoch mail).children
  pub children_sound : (epoch : ℕ) (mail : Mail) → r.sound epoch mail ≡ true → list_all (r.sound epoch) (outcome_at r epoch mail).children ≡ true
  pub falls : (epoch : ℕ) (mail : Mail) → r.sound epoch mail ≡ true
      → AllByRecursion (λ child. r.measure child < r.measure mail) (outcome_at r epoch mail).children

-- What configurations that follow one another owe: each allows what it carries, and what one carries and another allows
-- is sound for the other.
pub record Follow (r : Meanings) : Type 0 where
  pub sound_allowed : (epoch : ℕ) (mail : Mail) → r.sound epoch mail ≡ true → r.allows epoch mail ≡ true
  pub allowed_sound : (epoch other : ℕ) (mail : Mail) → r.sound epoch mail ≡ true → r.allows other mail ≡ true → r.sound other mail ≡ true

-- what configurations mean of which each has rules: the bytes, the rules and the start of each are given by its number
abbrev pub meanings_of : {R : Type 0} → (R → ℕ → NewMail → Mail) → (R → Replying) → (R → Mail → List Reply → Outcome)
    → (R → Mail → Bool) → (R → Mail → Bool) → (Mail → ℕ) → (ℕ → Option (List ℕ)) → (ℕ → R) → (ℕ → ℕ) → Meanings
meanings_of first_of reply_of outcome_of is_sound is_allowed measure plan rules start = record {
  plan = plan;
  first = λ epoch. first_of (rules epoch);
  reply = λ epoch. reply_of (rules epoch);
  step = λ epoch. outcome_of (rules epoch);
  sound = λ epoch. is_sound (rules epoch);
  allows = λ epoch. is_allowed (rules epoch);
  measure = measure;
  start = start;
}
