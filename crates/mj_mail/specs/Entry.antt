-- The entries that a journal keeps, as bytes: each item in its form, one behind the other. Numbers have a fixed size,
-- their lowest byte first, and a string of bytes stands behind its length.
use Rattle.std.specs.Prelude.{ℕ, nat_le, Bool, if◌then◌else◌, List, ◌++◌, length, Option, Some, None}
use Rattle.std.specs.Int.{w8, w16, w32, w64, to_le_bytes}
use Rattle.std.specs.List.{flat_map}
use Rattle.mj_fields.specs.Fields.{with_length}
use Rattle.mj_mail.specs.declared.entry.Entry.{Entry}
use Rattle.mj_mail.specs.declared.entry.Entry.TheVariants.{Setup, Accept, Done}
use Rattle.mj_mail.specs.declared.fact.Fact.{Fact}
use Rattle.mj_mail.specs.declared.fact.Fact.TheVariants.{Deposit, Sent, Retry, Bounce, Dropped, FellOff, Looped, Overrun}
use Rattle.mj_mail.specs.declared.fact.Outcome.{Outcome}
use Rattle.mj_mail.specs.declared.fact.Why.{Why}
use Rattle.mj_mail.specs.declared.fact.Why.TheVariants.{Discarded, NoReturnPath}
use Rattle.mj_mail.specs.declared.limits.TheConstants.{MAX_DONE}
use Rattle.mj_mail.specs.declared.mail.Body.{Body}
use Rattle.mj_mail.specs.declared.mail.Body.TheVariants.{Original, Made}
use Rattle.mj_mail.specs.declared.mail.Mail.{Mail}
use Rattle.mj_mail.specs.declared.mail.NewMail.{NewMail}
use Rattle.mj_mail.specs.declared.mail.Stage.{Stage}
use Rattle.mj_mail.specs.declared.mail.Stage.TheVariants.{Process, Remote}
use Rattle.mj_mail.specs.declared.name.Name.{Name}
use Rattle.mj_mail.specs.declared.reply.Reply.{Reply}
use Rattle.mj_mail.specs.Outcome.{one_fact}

-- ---- Lists, options and pairs

-- a list: how many items it has, and their forms
abbrev pub list_form : {X : Type 0} → (X → List ℕ) → List X → List ℕ
list_form form items = to_le_bytes w32 (length items) ++ flat_map form items

-- what may be missing: 0 where it is, else 1 and its form
abbrev pub option_form : {X : Type 0} → (X → List ℕ) → Option X → List ℕ
option_form form None = to_le_bytes w8 0
option_form form (Some item) = to_le_bytes w8 1 ++ form item

-- two strings
abbrev pub pair_form : List ℕ × List ℕ → List ℕ
pair_form pair = with_length pair.0 ++ with_length pair.1

-- ---- Mails

-- an address: its local part and its domain
abbrev pub address_form : List ℕ × List ℕ → List ℕ
address_form address = pair_form address

-- a sender, who is missing where it is the null reverse-path
abbrev pub sender_form : Option (List ℕ × List ℕ) → List ℕ
sender_form sender = option_form address_form sender

-- a list of recipients
abbrev pub recipients_form : List (List ℕ × List ℕ) → List ℕ
recipients_form recipients = list_form address_form recipients

-- attributes, each its name and its value
abbrev pub attributes_form : List (List ℕ × List ℕ) → List ℕ
attributes_form attributes = list_form pair_form attributes

-- a head: each field's name and raw body
abbrev pub head_form : List (List ℕ × List ℕ) → List ℕ
head_form fields = list_form pair_form fields

-- a name: its number and its path
abbrev pub name_form : Name → List ℕ
name_form name = to_le_bytes w64 name.number ++ list_form (to_le_bytes w32) name.path

-- a body: the number and the length of one that was accepted, or the bytes of one that was made
abbrev pub body_form : Body → List ℕ
body_form (Original number len) = to_le_bytes w8 0 ++ to_le_bytes w64 number ++ to_le_bytes w32 len
body_form (Made bytes) = to_le_bytes w8 1 ++ with_length bytes

-- where a mail stands
abbrev pub stage_form : Stage → List ℕ
stage_form (Process state) = to_le_bytes w8 0 ++ with_length state
stage_form (Remote delivery host attempt) = to_le_bytes w8 1 ++ with_length delivery ++ with_length host ++ to_le_bytes w32 attempt

-- an envelope: a sender and recipients
abbrev pub envelope_form : Option (List ℕ × List ℕ) → List (List ℕ × List ℕ) → List ℕ
envelope_form sender recipients = sender_form sender ++ recipients_form recipients

-- a message: a head and a body
abbrev pub message_form : List (List ℕ × List ℕ) → Body → List ℕ
message_form head body = head_form head ++ body_form body

-- what a mail has gathered on its way, and where it stands
abbrev pub standing_form : List (List ℕ × List ℕ) → Stage → List ℕ → List ℕ
standing_form attributes stage error = attributes_form attributes ++ stage_form stage ++ with_length error

-- a mail: its name, its envelope, its standing, its message, its hops, and when it is due
abbrev pub mail_form : Mail → List ℕ
mail_form mail =
    name_form mail.name ++ envelope_form mail.sender mail.recipients ++ standing_form mail.attributes mail.stage mail.error
    ++ message_form mail.head mail.body ++ to_le_bytes w32 mail.hops ++ to_le_bytes w64 mail.due

-- ---- Steps

-- a reply: its code and its text
abbrev pub reply_form : Reply → List ℕ
reply_form reply = to_le_bytes w16 reply.code ++ with_length reply.text

-- why a mail was dropped
abbrev pub why_form : Why → List ℕ
why_form Discarded = to_le_bytes w8 0
why_form NoReturnPath = to_le_bytes w8 1

-- a fact: a number for its kind, and what it tells
abbrev pub fact_form : Fact → List ℕ
fact_form (Deposit repository sender recipients head body) =
    to_le_bytes w8 0 ++ with_length repository ++ envelope_form sender recipients ++ message_form head body
fact_form (Sent host recipient reply) = to_le_bytes w8 1 ++ with_length host ++ address_form recipient ++ reply_form reply
fact_form (Retry host recipients attempt due) =
    to_le_bytes w8 2 ++ with_length host ++ recipients_form recipients ++ to_le_bytes w32 attempt ++ to_le_bytes w64 due
fact_form (Bounce recipients) = to_le_bytes w8 3 ++ recipients_form recipients
fact_form (Dropped why recipients) = to_le_bytes w8 4 ++ why_form why ++ recipients_form recipients
fact_form (FellOff processor recipients) = to_le_bytes w8 5 ++ with_length processor ++ recipients_form recipients
fact_form (Looped recipients) = to_le_bytes w8 6 ++ recipients_form recipients
fact_form Overrun = to_le_bytes w8 7

-- the entry of a step: the mail's name, the replies, and what the step made by them
abbrev pub done_form : Name → List Reply → Outcome → List ℕ
done_form name replies outcome =
    to_le_bytes w8 2 ++ name_form name ++ list_form reply_form replies ++ list_form fact_form outcome.facts ++ list_form mail_form outcome.children

-- a new mail: its envelope, its head and its body
abbrev pub new_mail_form : NewMail → List ℕ
new_mail_form new = envelope_form new.sender new.recipients ++ head_form new.head ++ with_length new.body

-- an entry: a number for its kind, and what it tells
abbrev pub entry_form : Entry → List ℕ
entry_form (Setup plan) = to_le_bytes w8 0 ++ with_length plan
entry_form (Accept number file new) = to_le_bytes w8 1 ++ to_le_bytes w64 number ++ with_length file ++ new_mail_form new
entry_form (Done name replies outcome) = done_form name replies outcome

-- ---- What is kept of a step

-- the entry of a step has at most 67,108,864 bytes
abbrev pub done_fits : Name → List Reply → Outcome → Bool
done_fits name replies outcome = nat_le (length (done_form name replies outcome)) MAX_DONE

-- what is kept of a step: what it made where its entry fits, else the fact alone that it was too large
abbrev pub kept : Name → List Reply → Outcome → Outcome
kept name replies outcome = if done_fits name replies outcome then outcome else one_fact Overrun
