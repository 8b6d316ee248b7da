-- A list of configurations of which each follows the one before it, and what it means.
use Rattle.std.specs.Prelude.{ℕ, zero, suc, Bool, true, List, [], ◌∷◌, slice_index_or, slice_get, option_map, Option, None}
use Rattle.mj_mail.specs.declared.mail.Mail.{Mail}
use Rattle.mj_mail.specs.declared.rules.Rules.{Ghosts}
use Rattle.mj_mail.specs.Mail.{first}
use Rattle.mj_mail.specs.Outcome.{nothing}
use Rattle.mj_lawful.specs.Configurations.{Meanings, meanings_of}
use Rattle.mj_core.specs.declared.epoch.Epoch.{Epoch}

-- the configuration of this number, from 1; the first one, where there is none of this number
abbrev pub member : {R : Type 0} → Epoch R → List (Epoch R) → ℕ → Epoch R
member head others zero = head
member head others (suc k) = slice_index_or (head ∷ others) k head

-- the bytes of the configuration of this number, if there is one
abbrev pub plan_of : {R : Type 0} → List (Epoch R) → ℕ → Option (List ℕ)
plan_of epochs zero = None
plan_of epochs (suc k) = option_map (λ epoch. epoch.plan) (slice_get epochs k)

-- the bytes of the first configuration
abbrev pub first_plan : {R : Type 0} → List (Epoch R) → List ℕ
first_plan [] = []
first_plan (head ∷ others) = head.plan

-- what no configurations mean: each mail is sound, and nothing becomes of it
abbrev pub of_none : (Mail → ℕ) → Meanings
of_none measure = record {
  plan = λ epoch. None;
  first = λ epoch number new. first 0 number new;
  reply = λ epoch host recipient attempt. record { code = 0; text = [] };
  step = λ epoch mail replies. nothing;
  sound = λ epoch mail. true;
  allows = λ epoch mail. true;
  measure = measure;
  start = λ epoch. 0;
}

-- what configurations that have such rules mean, each by its number from 1
abbrev pub meanings : {R : Type 0} → Ghosts R → (R → Mail → Bool) → List (Epoch R) → Meanings
meanings rules is_allowed [] = of_none rules.measure
meanings rules is_allowed (head ∷ others) =
    meanings_of rules.first_of rules.reply_of rules.outcome_of rules.is_sound is_allowed rules.measure
    (plan_of (head ∷ others)) (λ number. (member head others number).rules) (λ number. (member head others number).start)
