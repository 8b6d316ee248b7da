-- The reading of each item of an entry.
use Rattle.std.specs.Prelude.{ℕ, nat_lt, ◌==◌, Bool, true, false, ◌&&◌, not, if◌then◌else◌, List, [], ◌∷◌, ◌++◌, length, Option, Some, Result, Ok, Err}
use Rattle.std.specs.Int.{w16, w32, w64}
use Rattle.std.specs.List.{list_all}
use Rattle.std.specs.Ordering.{is_lt}
use Rattle.mj_address.specs.Grammar.{Mailbox}
use Rattle.mj_address.specs.Reading.{both_parts, domain_of, local_of}
use Rattle.mj_address.specs.Same.{has_same}
use Rattle.mj_address.specs.declared.fault.AddressFault.{AddressFault}
use Rattle.mj_head.specs.Head.{is_head}
use Rattle.mj_mail.specs.Attributes.{byte_order}
use Rattle.mj_mail.specs.Reply.{is_reply}
use Rattle.mj_mail.specs.declared.attributes.TheConstants.{MAX_ATTRIBUTES}
use Rattle.mj_mail.specs.declared.entry.Entry.{Entry}
use Rattle.mj_mail.specs.declared.entry.Entry.TheVariants.{Setup, Accept, Done}
use Rattle.mj_mail.specs.declared.fact.Fact.{Fact}
use Rattle.mj_mail.specs.declared.fact.Fact.TheVariants.{Deposit, Sent, Retry, Bounce, Dropped, FellOff, Looped, Overrun}
use Rattle.mj_mail.specs.declared.fact.Outcome.{Outcome}
use Rattle.mj_mail.specs.declared.fact.Why.{Why}
use Rattle.mj_mail.specs.declared.fact.Why.TheVariants.{Discarded, NoReturnPath}
use Rattle.mj_mail.specs.declared.mail.Body.{Body}
use Rattle.mj_mail.specs.declared.mail.Body.TheVariants.{Original, Made}
use Rattle.mj_mail.specs.declared.mail.Mail.{Mail}
use Rattle.mj_mail.specs.declared.mail.NewMail.{NewMail}
use Rattle.mj_mail.specs.declared.mail.Stage.{Stage}
use Rattle.mj_mail.specs.declared.mail.Stage.TheVariants.{Process, Remote}
use Rattle.mj_mail.specs.declared.name.Name.{Name}
use Rattle.mj_mail.specs.declared.reply.Reply.{Reply}
use Rattle.mj_entry_rows.specs.Readings.{Reading, alone, both_in, fitting_in, kind_in, list_in, made_in, no_item, number_in, option_in, pair_in, passing_in, string_in}

-- ---- Mails

abbrev pub is_ok : {X : Type 0} → Result X AddressFault → Bool
is_ok (Ok x) = true
is_ok (Err fault) = false

abbrev pub domain_in : Reading (List ℕ)
domain_in = passing_in (λ domain. is_ok (domain_of domain)) string_in

abbrev pub address_in : Reading Mailbox
address_in = passing_in (λ address. is_ok (both_parts (local_of address.0) (domain_of address.1))) pair_in

abbrev pub sender_in : Reading (Option Mailbox)
sender_in = option_in address_in

-- recipients: at least one, and none that stands there already
abbrev pub is_some_list : {X : Type 0} → List X → Bool
is_some_list items = not (length items == 0)

abbrev pub is_new_recipient : List Mailbox → Mailbox → Bool
is_new_recipient so_far address = not (has_same so_far address)

abbrev pub recipients_in : Reading (List Mailbox)
recipients_in = passing_in is_some_list (fitting_in address_in is_new_recipient)

-- attributes: few enough, and each name behind those before it
abbrev pub is_next_attribute : List (List ℕ × List ℕ) → List ℕ × List ℕ → Bool
is_next_attribute so_far attribute =
    nat_lt (length so_far) MAX_ATTRIBUTES && list_all (λ (held : List ℕ × List ℕ). is_lt (byte_order held.0 attribute.0)) so_far

abbrev pub attributes_in : Reading (List (List ℕ × List ℕ))
attributes_in = fitting_in pair_in is_next_attribute

-- a head: its fields, each of which makes one with those before it
abbrev pub is_next_field : List (List ℕ × List ℕ) → List ℕ × List ℕ → Bool
is_next_field so_far field = is_head (so_far ++ field ∷ [])

abbrev pub head_in : Reading (List (List ℕ × List ℕ))
head_in = fitting_in pair_in is_next_field

abbrev pub name_of : ℕ × List ℕ → Name
name_of parts = record { number = parts.0; path = parts.1 }

abbrev pub name_in : Reading Name
name_in = made_in name_of (both_in (number_in w64) (list_in (number_in w32)))

abbrev pub body_by : ℕ → Reading Body
body_by kind =
    if kind == 0 then made_in (λ (parts : ℕ × ℕ). Original parts.0 parts.1) (both_in (number_in w64) (number_in w32))
    else if kind == 1 then made_in Made string_in
    else no_item

abbrev pub body_in : Reading Body
body_in = kind_in body_by

abbrev pub stage_by : ℕ → Reading Stage
stage_by kind =
    if kind == 0 then made_in Process string_in
    else if kind == 1 then made_in (λ (parts : List ℕ × (List ℕ × ℕ)). Remote parts.0 parts.1.0 parts.1.1)
    (both_in string_in (both_in domain_in (number_in w32)))
    else no_item

abbrev pub stage_in : Reading Stage
stage_in = kind_in stage_by

abbrev pub envelope_in : Reading (Option Mailbox × List Mailbox)
envelope_in = both_in sender_in recipients_in

abbrev pub message_in : Reading (List (List ℕ × List ℕ) × Body)
message_in = both_in head_in body_in

-- attributes, the stage and the error text
abbrev pub standing_in : Reading (List (List ℕ × List ℕ) × (Stage × List ℕ))
standing_in = both_in attributes_in (both_in stage_in string_in)

-- the name and the envelope, what the mail has gathered, its message, its hops and when it is due
abbrev pub MailParts : Type 0
MailParts = Name × ((Option Mailbox × List Mailbox) × ((List (List ℕ × List ℕ) × (Stage × List ℕ)) × ((List (List ℕ × List ℕ) × Body) × (ℕ × ℕ))))

abbrev pub mail_of : MailParts → Mail
mail_of parts = record {
  name = parts.0;
  sender = parts.1.0.0;
  recipients = parts.1.0.1;
  attributes = parts.1.1.0.0;
  stage = parts.1.1.0.1.0;
  error = parts.1.1.0.1.1;
  head = parts.1.1.1.0.0;
  body = parts.1.1.1.0.1;
  hops = parts.1.1.1.1.0;
  due = parts.1.1.1.1.1;
}

abbrev pub mail_in : Reading Mail
mail_in = made_in mail_of (both_in name_in (both_in envelope_in (both_in standing_in (both_in message_in (both_in (number_in w32) (number_in w64))))))

abbrev pub new_mail_of : (Option Mailbox × List Mailbox) × (List (List ℕ × List ℕ) × List ℕ) → NewMail
new_mail_of parts = record { sender = parts.0.0; recipients = parts.0.1; head = parts.1.0; body = parts.1.1 }

abbrev pub new_mail_in : Reading NewMail
new_mail_in = made_in new_mail_of (both_in envelope_in (both_in head_in string_in))

-- ---- Steps

abbrev pub reply_of : ℕ × List ℕ → Reply
reply_of parts = record { code = parts.0; text = parts.1 }

abbrev pub reply_in : Reading Reply
reply_in = passing_in is_reply (made_in reply_of (both_in (number_in w16) string_in))

abbrev pub why_by : ℕ → Reading Why
why_by kind = if kind == 0 then (λ rest. Some (Discarded, rest)) else if kind == 1 then (λ rest. Some (NoReturnPath, rest)) else no_item

abbrev pub why_in : Reading Why
why_in = kind_in why_by

abbrev pub deposit_in : Reading Fact
deposit_in =
    made_in (λ (parts : List ℕ × ((Option Mailbox × List Mailbox) × (List (List ℕ × List ℕ) × Body))).
    Deposit parts.0 parts.1.0.0 parts.1.0.1 parts.1.1.0 parts.1.1.1)
    (both_in string_in (both_in envelope_in message_in))

abbrev pub sent_in : Reading Fact
sent_in =
    made_in (λ (parts : List ℕ × (Mailbox × Reply)). Sent parts.0 parts.1.0 parts.1.1) (both_in domain_in (both_in address_in reply_in))

abbrev pub retry_in : Reading Fact
retry_in =
    made_in (λ (parts : List ℕ × (List Mailbox × (ℕ × ℕ))). Retry parts.0 parts.1.0 parts.1.1.0 parts.1.1.1)
    (both_in domain_in (both_in recipients_in (both_in (number_in w32) (number_in w64))))

abbrev pub dropped_in : Reading Fact
dropped_in = made_in (λ (parts : Why × List Mailbox). Dropped parts.0 parts.1) (both_in why_in recipients_in)

abbrev pub felloff_in : Reading Fact
felloff_in = made_in (λ (parts : List ℕ × List Mailbox). FellOff parts.0 parts.1) (both_in string_in recipients_in)

abbrev pub fact_by : ℕ → Reading Fact
fact_by kind =
    if kind == 0 then deposit_in
    else if kind == 1 then sent_in
    else if kind == 2 then retry_in
    else if kind == 3 then made_in Bounce recipients_in
    else if kind == 4 then dropped_in
    else if kind == 5 then felloff_in
    else if kind == 6 then made_in Looped recipients_in
    else if kind == 7 then (λ rest. Some (Overrun, rest))
    else no_item

abbrev pub fact_in : Reading Fact
fact_in = kind_in fact_by

-- ---- Entries

abbrev pub accept_in : Reading Entry
accept_in =
    made_in (λ (parts : ℕ × (List ℕ × NewMail)). Accept parts.0 parts.1.0 parts.1.1)
    (both_in (number_in w64) (both_in string_in new_mail_in))

abbrev pub outcome_of : List Fact × List Mail → Outcome
outcome_of parts = record { facts = parts.0; children = parts.1 }

abbrev pub done_in : Reading Entry
done_in =
    made_in (λ (parts : Name × (List Reply × (List Fact × List Mail))). Done parts.0 parts.1.0 (outcome_of parts.1.1))
    (both_in name_in (both_in (list_in reply_in) (both_in (list_in fact_in) (list_in mail_in))))

abbrev pub entry_by : ℕ → Reading Entry
entry_by kind = if kind == 0 then made_in Setup string_in else if kind == 1 then accept_in else if kind == 2 then done_in else no_item

abbrev pub entry_in : Reading Entry
entry_in = kind_in entry_by

-- the entry that these bytes are, if they are one
abbrev pub entry_of : List ℕ → Option Entry
entry_of bytes = alone (entry_in bytes)
