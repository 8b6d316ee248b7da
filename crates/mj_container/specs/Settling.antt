-- What becomes of a mail after an attempt to send it to a host, by the replies for its recipients (RFC 5321, 4.2.1 and 4.5.4). A
-- recipient is served where the reply says so, tried again where it may be and the schedule has a delay left, and else
-- given up: its sender learns of it (RFC 5321, 6.1), or a processor for bounces gets the mail.
use Rattle.std.specs.Prelude.{ℕ, ◌+◌, ◌-◌, nat_le, Bool, true, false, if◌then◌else◌, List, [], ◌∷◌, length, map, filter, codes, slice_get, Option, Some, None}
use Rattle.std.specs.List.{zip}
use Rattle.std.specs.Str.{bytes_eq}
use Rattle.mj_groups.specs.Groups.{grouped}
use Rattle.mj_mail.specs.declared.attributes.TheConstants.{MAX_ATTRIBUTES}
use Rattle.mj_mail.specs.declared.fact.Fact.{Fact}
use Rattle.mj_mail.specs.declared.fact.Fact.TheVariants.{Bounce, Dropped, Retry, Sent}
use Rattle.mj_mail.specs.declared.fact.Outcome.{Outcome}
use Rattle.mj_mail.specs.declared.fact.Why.TheVariants.{Discarded, NoReturnPath}
use Rattle.mj_mail.specs.declared.failure.Failure.{Failure}
use Rattle.mj_mail.specs.declared.mail.Mail.{Mail}
use Rattle.mj_mail.specs.declared.mail.Stage.TheVariants.{Remote}
use Rattle.mj_mail.specs.declared.reply.Class.{Class}
use Rattle.mj_mail.specs.declared.reply.Class.TheVariants.{Success, Transient, Permanent}
use Rattle.mj_mail.specs.declared.reply.Reply.{Reply}
use Rattle.mj_mail.specs.Attributes.{with_attribute}
use Rattle.mj_mail.specs.Outcome.{both, nothing, one_fact}
use Rattle.mj_mail.specs.Reply.{class_of, reply_text}
pub use Rattle.mj_mail.specs.Reply.{code_text, same_reply}
use Rattle.mj_plan.specs.declared.plan.Plan.{Plan}
use Rattle.mj_plan.specs.Lookups.{Delivery, delivery_named}
use Rattle.mj_container.specs.Matching.{Mailbox}
use Rattle.mj_container.specs.Notices.{bounce_of}
use Rattle.mj_container.specs.Serving.{ghost_state, sent_to}

-- ---- Attempts

-- An attempt of this number, from 1, by a remote delivery at a host; the delay before the next one, if there is one, and the
-- processor to which the delivery sends what it gave up, if it names one.
pub record Attempt : Type 0 where
  pub delivery : List ℕ
  pub host : List ℕ
  pub number : ℕ
  pub delay : Option ℕ
  pub bounces : Option (List ℕ)

-- the delay after the attempt of this number; the last one has none behind it
abbrev pub delay_after : ℕ → List ℕ → Option ℕ
delay_after number schedule = slice_get schedule (number - 1)

-- the attempt by a remote delivery that was found
abbrev pub attempt_by : List ℕ → List ℕ → ℕ → Option Delivery → Attempt
attempt_by delivery host number None = record { delivery = delivery; host = host; number = number; delay = None; bounces = None }
attempt_by delivery host number (Some found) =
    record { delivery = delivery; host = host; number = number; delay = delay_after number found.0; bounces = found.1 }

abbrev pub attempt_at : Plan → List ℕ → List ℕ → ℕ → Attempt
attempt_at plan delivery host number = attempt_by delivery host number (delivery_named delivery plan.processors)

-- ---- Recipients by their replies

-- a recipient, and the reply for it
abbrev pub Answer : Type 0
Answer = Mailbox × Reply

abbrev pub answers : List Mailbox → List Reply → List Answer
answers recipients replies = zip recipients replies

-- the host took it
abbrev pub is_served : Class → Bool
is_served Success = true
is_served other = false

-- the host refused it for good, or this was the last attempt
abbrev pub is_given_up : Option ℕ → Class → Bool
is_given_up delay Success = false
is_given_up delay Permanent = true
is_given_up None Transient = true
is_given_up (Some delay) Transient = false

-- the host may take it later
abbrev pub is_tried_again : Option ℕ → Class → Bool
is_tried_again (Some delay) Transient = true
is_tried_again delay other = false

-- those whose reply is of such a class
abbrev pub those : (Class → Bool) → List Answer → List Answer
those test answers = filter (λ answer. test (class_of answer.1.code)) answers

abbrev pub recipients_of : List Answer → List Mailbox
recipients_of answers = map (λ answer. answer.0) answers

-- ---- Served

abbrev pub sent : List ℕ → Answer → Fact
sent host answer = Sent host answer.0 answer.1

abbrev pub served_outcome : Attempt → List Answer → Outcome
served_outcome attempt answers = record { facts = map (sent attempt.host) answers; children = [] }

-- ---- Given up

-- why a recipient was given up
abbrev pub failure : Answer → Failure
failure answer = record { recipient = answer.0; reason = reply_text answer.1 }

-- the sender is told, if there is one
abbrev pub bounced : List Mailbox → Option Mail → Outcome
bounced recipients (Some notice) = record { facts = Bounce recipients ∷ []; children = notice ∷ [] }
bounced recipients None = one_fact (Dropped NoReturnPath recipients)

-- with this attribute, unless it would be one too many
abbrev pub with_room : List ℕ → List ℕ → List (List ℕ × List ℕ) → List (List ℕ × List ℕ)
with_room name value attributes =
    if nat_le (length (with_attribute name value attributes)) MAX_ATTRIBUTES then with_attribute name value attributes else attributes

-- whether a reply refuses for good
abbrev pub permanence : Class → List ℕ
permanence Permanent = codes "true"
permanence other = codes "false"

-- with what a reply says, for the matchers of failed deliveries
abbrev pub with_reply : Reply → List (List ℕ × List ℕ) → List (List ℕ × List ℕ)
with_reply reply attributes =
    with_room (codes "is-delivery-permanent-error") (permanence (class_of reply.code))
    (with_room (codes "delivery-error-code") (code_text reply.code) (with_room (codes "delivery-error") (reply_text reply) attributes))

-- the recipients of each different reply
abbrev pub by_reply : List Answer → List (Reply × List Mailbox)
by_reply answers = grouped same_reply (map (λ answer. (answer.1, answer.0)) answers)

-- the mail for the recipients of one reply, sent to a processor
abbrev pub sent_back : List ℕ → Mail → Reply × List Mailbox → Mail
sent_back state mail group = sent_to state (record mail { recipients = group.1; attributes = with_reply group.0 mail.attributes })

-- a processor gets the mail, once for each different reply, and with `ghost` it is dropped
abbrev pub sent_back_all : List ℕ → Mail → List Answer → Outcome
sent_back_all state mail answers =
    if bytes_eq state ghost_state then one_fact (Dropped Discarded (recipients_of answers))
    else record { facts = []; children = map (sent_back state mail) (by_reply answers) }

-- these are given up: a processor gets the mail where one is named, and else the sender is told
abbrev pub given_up_by : Plan → Mail → Option (List ℕ) → List Answer → Outcome
given_up_by plan mail None answers = bounced (recipients_of answers) (bounce_of plan mail (map failure answers))
given_up_by plan mail (Some state) answers = sent_back_all state mail answers

abbrev pub given_up : Plan → Mail → Attempt → List Answer → Outcome
given_up plan mail attempt [] = nothing
given_up plan mail attempt (answer ∷ answers) = given_up_by plan mail attempt.bounces (answer ∷ answers)

-- ---- Tried again

-- the mail for these recipients, at the next attempt, which is due so much later
abbrev pub put_off : Attempt → ℕ → List Mailbox → Mail → Mail
put_off attempt delay recipients mail = record mail {
  recipients = recipients;
  stage = Remote attempt.delivery attempt.host (attempt.number + 1);
  due = mail.due + delay;
}

abbrev pub tried_again_after : Mail → Attempt → ℕ → List Mailbox → Outcome
tried_again_after mail attempt delay [] = nothing
tried_again_after mail attempt delay (r ∷ rs) = record {
  facts = Retry attempt.host (r ∷ rs) (attempt.number + 1) (mail.due + delay) ∷ [];
  children = put_off attempt delay (r ∷ rs) mail ∷ [];
}

abbrev pub tried_again : Mail → Attempt → Option ℕ → List Mailbox → Outcome
tried_again mail attempt None recipients = nothing
tried_again mail attempt (Some delay) recipients = tried_again_after mail attempt delay recipients

-- ---- Settling

-- what becomes of a mail by the answers of an attempt: of those that were served, of those that are given up, and of those that
-- are tried again
abbrev pub settle : Plan → Mail → Attempt → List Answer → Outcome
settle plan mail attempt answers =
    both (served_outcome attempt (those is_served answers))
    (both (given_up plan mail attempt (those (is_given_up attempt.delay) answers))
    (tried_again mail attempt attempt.delay (recipients_of (those (is_tried_again attempt.delay) answers))))
