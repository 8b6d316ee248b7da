-- What becomes of a mail after an attempt, part by part.
use Rattle.std.specs.Prelude.{ℕ, if◌then◌else◌, List, [], ◌∷◌, map, Option, Some, None}
use Rattle.std.specs.List.{AllByRecursion}
use Rattle.std.specs.Str.{bytes_eq}
use Rattle.mj_address.specs.Same.{AreRecipients}
use Rattle.mj_mail.specs.declared.fact.Fact.TheVariants.{Dropped}
use Rattle.mj_mail.specs.declared.fact.Outcome.{Outcome}
use Rattle.mj_mail.specs.declared.fact.Why.TheVariants.{Discarded}
use Rattle.mj_mail.specs.declared.failure.Failure.{Failure}
use Rattle.mj_mail.specs.declared.mail.Mail.{Mail}
use Rattle.mj_mail.specs.declared.mail.Stage.{Stage}
use Rattle.mj_mail.specs.declared.mail.Stage.TheVariants.{Process, Remote}
use Rattle.mj_mail.specs.declared.reply.Reply.{Reply}
use Rattle.mj_mail.specs.Outcome.{nothing, one_fact}
use Rattle.mj_plan.specs.declared.plan.Plan.{Plan}
use Rattle.mj_container.specs.Matching.{Mailbox}
use Rattle.mj_container.specs.Notices.{bounce_of}
use Rattle.mj_container.specs.Serving.{ghost_state}
use Rattle.mj_container.specs.Settling.{Answer, answers, attempt_at, bounced, by_reply, failure, recipients_of, sent_back, settle}

-- ---- Settling

-- what becomes of a mail by the replies to its attempt; a mail in a processor has none
abbrev pub settled_at : Plan → Mail → Stage → List Reply → Outcome
settled_at plan mail (Process state) replies = nothing
settled_at plan mail (Remote delivery host number) replies = settle plan mail (attempt_at plan delivery host number) (answers mail.recipients replies)

-- ---- Given up

-- the sender is told of these, if there are any
abbrev pub told : Plan → Mail → List Mailbox → List Failure → Outcome
told plan mail [] failed = nothing
told plan mail (r ∷ rs) failed = bounced (r ∷ rs) (bounce_of plan mail failed)

-- these are dropped, if there are any
abbrev pub discarded : List Mailbox → Outcome
discarded [] = nothing
discarded (r ∷ rs) = one_fact (Dropped Discarded (r ∷ rs))

-- a processor gets the mail, once for each different reply
abbrev pub sent_back_each : List ℕ → Mail → List Answer → Outcome
sent_back_each state mail answers = record { facts = []; children = map (sent_back state mail) (by_reply answers) }

-- groups whose recipients are recipients of a mail
abbrev pub AreGroups : List (Reply × List Mailbox) → Type 0
AreGroups groups = AllByRecursion (λ group. AreRecipients group.1) groups

-- what becomes of those that are given up
abbrev pub given_up_to : Plan → Mail → Option (List ℕ) → List Answer → Outcome
given_up_to plan mail None answers = told plan mail (recipients_of answers) (map failure answers)
given_up_to plan mail (Some state) answers = if bytes_eq state ghost_state then discarded (recipients_of answers) else sent_back_each state mail answers
