-- What the processors make of a mail, one step at a time. At each step the mail is split: the recipients that the
-- matcher takes are served, and go on as the mailet lets them; the others pass by to the next step. Parts that were
-- split are never joined again.
use Rattle.std.specs.Prelude.{ℕ, ◌+◌, nat_le, not, if◌then◌else◌, List, [], ◌∷◌, ◌++◌, filter, codes, Option, Some, None, Result, Ok, Err}
use Rattle.std.specs.Fmt.{decimal}
use Rattle.mj_mail.specs.declared.fact.Fact.TheVariants.{FellOff, Looped}
use Rattle.mj_mail.specs.declared.fact.Outcome.{Outcome}
use Rattle.mj_mail.specs.declared.mail.Mail.{Mail}
use Rattle.mj_mail.specs.declared.mail.NewMail.{NewMail}
use Rattle.mj_mail.specs.declared.mail.Stage.{Stage}
use Rattle.mj_mail.specs.declared.mail.Stage.TheVariants.{Process, Remote}
use Rattle.mj_mail.specs.declared.reply.Reply.{Reply}
use Rattle.mj_mail.specs.Entry.{kept}
use Rattle.mj_mail.specs.Mail.{first, restrict}
use Rattle.mj_mail.specs.Meaning.{meaning, tree, Placed}
use Rattle.mj_mail.specs.Outcome.{both, nothing, numbered, one_fact}
use Rattle.mj_mail.specs.Rules.{Replying, step_by}
use Rattle.mj_plan.specs.declared.plan.MailetRoute.{MailetRoute}
use Rattle.mj_plan.specs.declared.plan.MailetRoute.TheVariants.{Ignore, To}
use Rattle.mj_plan.specs.declared.plan.Plan.{Plan}
use Rattle.mj_plan.specs.declared.plan.Processor.{Processor}
use Rattle.mj_plan.specs.declared.plan.Step.{Step}
use Rattle.mj_plan.specs.Lookups.{processor_named}
use Rattle.mj_container.specs.declared.service.Onward.{Onward}
use Rattle.mj_container.specs.declared.service.Onward.TheVariants.{GoOn, Leave, End}
use Rattle.mj_container.specs.declared.service.Served.{Served}
use Rattle.mj_container.specs.declared.service.Unserved.{Unserved}
use Rattle.mj_container.specs.Matching.{Mailbox}
use Rattle.mj_container.specs.Serving.{leave, serve}
use Rattle.mj_container.specs.Settling.{answers, attempt_at, settle}
use Rattle.mj_container.specs.Sound.{is_sound, measure}
use Rattle.mj_container.specs.Verdict.{Verdict, Leaves, Takes, verdict}

-- ---- A mail that a step serves

-- where and why a mail left by a failure: the processor, the number of the step, and the reason
abbrev pub failed_at : List ℕ → ℕ → List ℕ → List ℕ
failed_at name number reason = codes "processor " ++ name ++ codes " step " ++ decimal number ++ codes ": " ++ reason

-- a mail that leaves by a failure
abbrev pub leave_failed : List ℕ → ℕ → List ℕ → List ℕ → Mail → Outcome
leave_failed name number reason state mail = leave state (record mail { error = failed_at name number reason })

-- where it goes on, leaves or ends; `on` says what the next steps make of a mail
abbrev pub gone : (Mail → Outcome) → Onward → Outcome
gone on (GoOn mail) = on mail
gone on (Leave mail state) = leave state mail
gone on End = nothing

-- where its mailet failed it goes on as it was, or leaves
abbrev pub failed : MailetRoute → List ℕ → ℕ → (Mail → Outcome) → Unserved → Outcome
failed Ignore name number on unserved = on unserved.mail
failed (To state) name number on unserved = leave_failed name number unserved.text state unserved.mail

-- what its mailet gave, and then what becomes of it
abbrev pub settled : MailetRoute → List ℕ → ℕ → (Mail → Outcome) → Result Served Unserved → Outcome
settled route name number on (Ok served) = both (record { facts = served.facts; children = served.children }) (gone on served.onward)
settled route name number on (Err unserved) = failed route name number on unserved

abbrev pub served : Plan → List ℕ → ℕ → Step → (Mail → Outcome) → Mail → Outcome
served plan name number step on mail = settled step.on_mailet name number on (serve plan step.mailet mail)

-- ---- Splitting

-- what becomes of a part, if any recipient is in it
abbrev pub part : (Mail → Outcome) → Mail → List Mailbox → Outcome
part of mail [] = nothing
part of mail (r ∷ rs) = of (restrict mail (r ∷ rs))

-- where no recipient is taken the whole mail goes on; else those that are taken are served, and then the others go on,
-- if there are any
abbrev pub parted : (Mail → Outcome) → (Mail → Outcome) → Mail → List Mailbox → List Mailbox → Outcome
parted serving on mail [] others = on mail
parted serving on mail (r ∷ rs) others = both (serving (restrict mail (r ∷ rs))) (part on mail others)

-- what a step makes of a mail by its matcher's verdict
abbrev pub split : Plan → List ℕ → ℕ → Step → (Mail → Outcome) → Mail → Verdict → Outcome
split plan name number step on mail (Leaves state reason) = leave_failed name number reason state mail
split plan name number step on mail (Takes test) =
    parted (served plan name number step on) on mail (filter test mail.recipients) (filter (λ r. not (test r)) mail.recipients)

-- What the steps of a processor of this name make of a mail, where the first of them has this number: one that comes past
-- the last step falls off. Facts follow facts, and children follow children.
abbrev pub run : Plan → List ℕ → ℕ → List Step → Mail → Outcome
run plan name number [] mail = one_fact (FellOff name mail.recipients)
run plan name number (step ∷ steps) mail = split plan name number step (run plan name (number + 1) steps) mail (verdict plan step mail)

-- ---- One step of a mail

abbrev pub run_in : Plan → Option Processor → Mail → Outcome
run_in plan None mail = nothing
run_in plan (Some processor) mail = run plan processor.name 1 processor.steps mail

-- what a step makes of a mail where it stands, by these replies, its children without their numbers: a mail in a processor
-- with too many hops has looped, and one that was sent to a host is settled
abbrev pub drafts : Plan → Stage → List Reply → Mail → Outcome
drafts plan (Process state) replies mail =
    if nat_le plan.max_hops mail.hops then one_fact (Looped mail.recipients) else run_in plan (processor_named state plan.processors) mail
drafts plan (Remote delivery host number) replies mail = settle plan mail (attempt_at plan delivery host number) (answers mail.recipients replies)

-- what one step makes of a mail by these replies, its children numbered; what is too large to be kept is Overrun alone
abbrev pub step : Plan → Mail → List Reply → Outcome
step plan mail replies = kept mail.name replies (numbered (drafts plan mail.stage replies mail))

-- what one step makes of a mail that is sound, where hosts answer so, and nothing of any other
abbrev pub carried : Plan → Replying → Mail → Outcome
carried plan reply mail = step_by is_sound (λ rules. reply) step plan mail

-- all that becomes of a mail under the plan
abbrev pub fate : Plan → Replying → Mail → List Placed
fate plan reply mail = tree measure (carried plan reply) mail

-- all that becomes of what was accepted, a number and a new mail each
abbrev pub fates : Plan → Replying → List (ℕ × NewMail) → List Placed
fates plan reply accepted = meaning (first plan.start) measure (carried plan reply) accepted
