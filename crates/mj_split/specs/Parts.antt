-- Parts of a mail that wait for their next step.
use Rattle.std.specs.Prelude.{ℕ, List, [], ◌∷◌, Option, Some, None}
use Rattle.std.specs.List.{AllByRecursion}
use Rattle.mj_mail.specs.declared.fact.Outcome.{Outcome}
use Rattle.mj_mail.specs.declared.mail.Mail.{Mail}
use Rattle.mj_address.specs.Grammar.{Mailbox}
use Rattle.mj_mail.specs.Mail.{restrict}
use Rattle.mj_mail.specs.Outcome.{nothing}
use Rattle.mj_container.specs.Sound.{IsFit}
use Rattle.mj_split.specs.declared.run.Waiting.{Waiting}
use Rattle.mj_split.specs.declared.step.Parts.{Parts}

-- what becomes of a mail that goes on, if one does
abbrev pub goes_on : (Mail → Outcome) → Option Mail → Outcome
goes_on on None = nothing
goes_on on (Some mail) = on mail

-- a mail that waits for the step at a place, if there is one
abbrev pub waits_at : ℕ → Option Mail → List Waiting
waits_at place None = []
waits_at place (Some mail) = record { mail = mail; place = place } ∷ []

-- the mail for these recipients, if there are any
abbrev pub for_any : Mail → List Mailbox → Option Mail
for_any mail [] = None
for_any mail (r ∷ rs) = Some (restrict mail (r ∷ rs))

-- a mail that goes on, if one does, is fit for a mailet
abbrev pub IsFitNext : Option Mail → Type 0
IsFitNext None = Unit {0}
IsFitNext (Some mail) = IsFit mail

-- all that goes on, and all that waits, is fit
pub record AreFit (parts : Parts) : Type 0 where
  pub served : IsFitNext parts.served
  pub rest : IsFitNext parts.rest

abbrev pub WaitFit : List Waiting → Type 0
WaitFit waiting = AllByRecursion (λ part. IsFit part.mail) waiting
