-- One recipient's fate is what it would have been alone. This holds in processors whose mailets ask nothing of the other
-- recipients, and whose matchers don't count them.
use Rattle.std.specs.Prelude.{◌≡◌, ℕ, ◌+◌, Bool, true, false, not, ◌&&◌, if◌then◌else◌, List, [], ◌∷◌, length, map, filter, Option, Some, None}
use Rattle.std.specs.List.{filter_map, list_all}
use Rattle.mj_address.specs.Same.{same_address}
use Rattle.mj_mail.specs.declared.fact.Fact.{Fact}
use Rattle.mj_mail.specs.declared.fact.Fact.TheVariants.{Deposit, Sent, Retry, Bounce, Dropped, FellOff, Looped, Overrun}
use Rattle.mj_mail.specs.declared.fact.Outcome.{Outcome}
use Rattle.mj_mail.specs.declared.mail.Mail.{Mail}
use Rattle.mj_mail.specs.Mail.{restrict}
use Rattle.mj_mail.specs.Name.{first_name}
use Rattle.mj_mail.specs.Outcome.{one_fact}
use Rattle.mj_plan.specs.declared.condition.Condition.{Condition}
use Rattle.mj_plan.specs.declared.condition.Condition.TheVariants.{IsSingleRecipient, TooManyRecipients}
use Rattle.mj_plan.specs.declared.mailet.MailetKind.{MailetKind}
use Rattle.mj_plan.specs.declared.mailet.MailetKind.TheVariants.{ToProcessor, Null, SetMailAttribute, RemoveMailAttribute, RemoveAllMailAttributes, SetMimeHeader, RemoveMimeHeader, MailAttributesToMimeHeaders, AddSubjectPrefix, Fail}
use Rattle.mj_plan.specs.declared.matcher.MatchExpr.{MatchExpr}
use Rattle.mj_plan.specs.declared.matcher.MatchExpr.TheOpen.{MatchExpr-F}
use Rattle.mj_plan.specs.declared.matcher.MatchExpr.TheFolds.{fold-MatchExpr}
use Rattle.mj_plan.specs.declared.plan.Plan.{Plan}
use Rattle.mj_plan.specs.declared.plan.Processor.{Processor}
use Rattle.mj_plan.specs.declared.plan.Step.{Step}
use Rattle.mj_container.specs.Matching.{Mailbox}
use Rattle.mj_container.specs.Running.{leave_failed, served}
use Rattle.mj_container.specs.Verdict.{Verdict, Leaves, Takes, verdict}

-- ---- Plain steps

-- the condition counts recipients
abbrev pub counts_recipients : Condition → Bool
counts_recipients IsSingleRecipient = true
counts_recipients (TooManyRecipients most) = true
counts_recipients other = false

abbrev pub is_plain_at : MatchExpr-F Bool → Bool
is_plain_at (MatchExpr-F.One condition) = not (counts_recipients condition)
is_plain_at (MatchExpr-F.And plain) = list_all (λ child. child) plain
is_plain_at (MatchExpr-F.Or plain) = list_all (λ child. child) plain
is_plain_at (MatchExpr-F.Not plain) = list_all (λ child. child) plain
is_plain_at (MatchExpr-F.Xor plain) = list_all (λ child. child) plain

-- no condition of the matcher counts recipients
abbrev pub is_plain_matcher : MatchExpr → Bool
is_plain_matcher matcher = fold-MatchExpr Bool is_plain_at matcher

-- the mailet asks nothing of the recipients
abbrev pub is_plain_mailet : MailetKind → Bool
is_plain_mailet (ToProcessor processor) = true
is_plain_mailet Null = true
is_plain_mailet (SetMailAttribute attributes) = true
is_plain_mailet (RemoveMailAttribute names) = true
is_plain_mailet RemoveAllMailAttributes = true
is_plain_mailet (SetMimeHeader name value) = true
is_plain_mailet (RemoveMimeHeader names) = true
is_plain_mailet (MailAttributesToMimeHeaders mapping) = true
is_plain_mailet (AddSubjectPrefix prefix) = true
is_plain_mailet (Fail text) = true
is_plain_mailet other = false

abbrev pub is_plain_step : Step → Bool
is_plain_step step = is_plain_matcher step.matcher && is_plain_mailet step.mailet

abbrev pub is_plain : List Step → Bool
is_plain steps = list_all is_plain_step steps

-- ---- Alone

-- the steps, for a mail of this one recipient: where a matcher takes it the mailet serves it, and else it passes by
abbrev pub walk : Plan → List ℕ → ℕ → Step → (Mail → Outcome) → Mailbox → Mail → Verdict → Outcome
walk plan name number step on r mail (Leaves state reason) = leave_failed name number reason state mail
walk plan name number step on r mail (Takes test) = if test r then served plan name number step on mail else on mail

abbrev pub alone : Plan → List ℕ → ℕ → List Step → Mailbox → Mail → Outcome
alone plan name number [] r mail = one_fact (FellOff name mail.recipients)
alone plan name number (step ∷ steps) r mail = walk plan name number step (alone plan name (number + 1) steps r) r mail (verdict plan step mail)

-- ---- Among others

-- this recipient, if it is among these
abbrev pub cut : Mailbox → List Mailbox → List Mailbox
cut r recipients = filter (same_address r) recipients

-- what is said of these recipients, if there are any
abbrev pub named : {X : Type 0} → (List Mailbox → X) → List Mailbox → Option X
named of [] = None
named of (r ∷ rs) = Some (of (r ∷ rs))

abbrev pub fact_of : Mailbox → Fact → Option Fact
fact_of r (Deposit repository sender recipients head body) = named (λ rs. Deposit repository sender rs head body) (cut r recipients)
fact_of r (Sent host recipient reply) = named (λ rs. Sent host recipient reply) (cut r (recipient ∷ []))
fact_of r (Retry host recipients attempt due) = named (λ rs. Retry host rs attempt due) (cut r recipients)
fact_of r (Bounce recipients) = named Bounce (cut r recipients)
fact_of r (Dropped why recipients) = named (Dropped why) (cut r recipients)
fact_of r (FellOff processor recipients) = named (FellOff processor) (cut r recipients)
fact_of r (Looped recipients) = named Looped (cut r recipients)
fact_of r Overrun = None

abbrev pub child_of : Mailbox → Mail → Option Mail
child_of r child = named (restrict child) (cut r child.recipients)

-- the facts and children that name r, for r alone
abbrev pub only : Mailbox → Outcome → Outcome
only r outcome = record { facts = filter_map (fact_of r) outcome.facts; children = filter_map (child_of r) outcome.children }

-- how many facts and children there are
abbrev pub count : Outcome → ℕ
count outcome = length outcome.facts + length outcome.children

-- without the names of the children, which only number them
abbrev pub nameless : Mail → Mail
nameless child = record child { name = first_name 0 }

abbrev pub numberless : Outcome → Outcome
numberless outcome = record { facts = outcome.facts; children = map nameless outcome.children }

-- An outcome of a mail in a processor has for this recipient just what the mail comes to for this recipient alone, and that
-- is one fact or child.
pub record IsAsAlone (plan : Plan) (processor : Processor) (mail : Mail) (outcome : Outcome) (r : Mailbox) : Type 0 where
  pub same : numberless (only r outcome) ≡ numberless (alone plan processor.name 1 processor.steps r (restrict mail (r ∷ [])))
  pub one : count (only r outcome) ≡ 1
