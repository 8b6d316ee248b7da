-- Replies, and facts by their kinds.
use Rattle.std.proofs.Common.{◌≡◌, ℕ, ◌<◌, ◌≤◌, ◌^◌, nat_le, true, List, [], ◌++◌, length, Option, Some, refl, arith, append_assoc}
use Rattle.std.specs.Int.{w8, w32, w64, to_le_bytes}
use Rattle.std.specs.List.{list_all}
use Rattle.std.proofs.lemmas.Bool.{and_parts, leb-true}
use Rattle.std.proofs.lemmas.Bool.Decides.{nat_tests}
use Rattle.mj_fields.specs.Fields.{with_length}
use Rattle.mj_address.specs.Grammar.{Mailbox}
use Rattle.mj_mail.specs.Entry.{address_form, envelope_form, fact_form, message_form, recipients_form, reply_form, why_form}
use Rattle.mj_mail.specs.Reply.{is_code, is_printable, is_reply, is_reply_text}
use Rattle.mj_mail.specs.declared.fact.Fact.{Fact}
use Rattle.mj_mail.specs.declared.fact.Fact.TheVariants.{Deposit, Sent, Retry, Bounce, Dropped, FellOff, Looped, Overrun}
use Rattle.mj_mail.specs.declared.fact.Why.{Why}
use Rattle.mj_mail.specs.declared.fact.Why.TheVariants.{Discarded, NoReturnPath}
use Rattle.mj_mail.specs.declared.mail.Body.{Body}
use Rattle.mj_mail.specs.declared.reply.Reply.{Reply}
use Rattle.mj_entry_rows.specs.Forms.{IsCounted, IsFact, IsReply}
use Rattle.mj_entry_rows.specs.Items.{fact_by, fact_in, reply_in, reply_of, why_by, why_in}
use Rattle.mj_entry_rows.specs.Readings.{IsRow, kind_in}
use Rattle.mj_entry_rows.proofs.Addresses.{address_row, domain_row, recipients_row}
use Rattle.mj_entry_rows.proofs.Joins.{join_4, join_5}
use Rattle.mj_entry_rows.proofs.KindRows.{IsKind, if_kind, kind_again, kind_row, made_kind, no_kind, one_kind}
use Rattle.mj_entry_rows.proofs.Mails.{envelope_row, message_row}
use Rattle.mj_entry_rows.proofs.Numbers.{long_row, short_row, string_row, word_row}
use Rattle.mj_entry_rows.proofs.Rows.{both_row, made_again, made_row, passing_row}

-- ---- Replies

code_short : (code : ℕ) → is_code code ≡ true → code < 2 ^ 16
code_short code h = grind (arith, nat_tests)

text_counted : (text : List ℕ) → is_reply_text text ≡ true → IsCounted text
text_counted text h =
    let short : length text ≤ 512 = leb-true (length text) 512 (and_parts (nat_le (length text) 512) (list_all is_printable text) h).0 in
    omega arith

pub reply_row : IsRow IsReply reply_form reply_in
reply_row =
    passing_row
    (made_row (both_row short_row string_row) reply_of (λ reply. (reply.code, reply.text))
    (λ reply. (reply.code < 2 ^ 16) × IsCounted reply.text) reply_form
    (λ reply. refl) (λ parts is. is) (λ reply is. is) (λ parts. refl))
    is_reply IsReply
    (λ reply fits h. h)
    (λ reply is.
    let parts = and_parts (is_code reply.code) (is_reply_text reply.text) is in
    ((code_short reply.code parts.0, text_counted reply.text parts.1), is))

-- ---- Why a mail was dropped

-- any reason
abbrev pub IsWhy : Why → Type 0
IsWhy why = Unit {0}

why_again : (why : Why) (rest : List ℕ) → IsWhy why → kind_in why_by (why_form why ++ rest) ≡ Some (why, rest)
why_again Discarded rest is = kind_again IsWhy why_form why_by 0 Discarded [] rest (omega arith) refl refl
why_again NoReturnPath rest is = kind_again IsWhy why_form why_by 1 NoReturnPath [] rest (omega arith) refl refl

pub why_row : IsRow IsWhy why_form why_in
why_row =
    kind_row IsWhy why_form why_by why_again
    (λ kind.
    if_kind IsWhy why_form kind 0 (one_kind IsWhy why_form Discarded 0 tt refl)
    (if_kind IsWhy why_form kind 1 (one_kind IsWhy why_form NoReturnPath 1 tt refl) (no_kind IsWhy why_form kind)))

-- ---- Facts

abbrev deposit_of : List ℕ × ((Option Mailbox × List Mailbox) × (List (List ℕ × List ℕ) × Body)) → Fact
deposit_of parts = Deposit parts.0 parts.1.0.0 parts.1.0.1 parts.1.1.0 parts.1.1.1

abbrev sent_of : List ℕ × (Mailbox × Reply) → Fact
sent_of parts = Sent parts.0 parts.1.0 parts.1.1

abbrev retry_of : List ℕ × (List Mailbox × (ℕ × ℕ)) → Fact
retry_of parts = Retry parts.0 parts.1.0 parts.1.1.0 parts.1.1.1

abbrev dropped_of : Why × List Mailbox → Fact
dropped_of parts = Dropped parts.0 parts.1

abbrev felloff_of : List ℕ × List Mailbox → Fact
felloff_of parts = FellOff parts.0 parts.1

fact_again : (fact : Fact) (rest : List ℕ) → IsFact fact → kind_in fact_by (fact_form fact ++ rest) ≡ Some (fact, rest)
fact_again (Deposit repository sender recipients head body) rest is =
    kind_again IsFact fact_form fact_by 0 (Deposit repository sender recipients head body)
    (with_length repository ++ (envelope_form sender recipients ++ message_form head body)) rest (omega arith)
    (join_4 (to_le_bytes w8 0) (with_length repository) (envelope_form sender recipients) (message_form head body))
    (made_again (both_row string_row (both_row envelope_row message_row)) deposit_of (repository, ((sender, recipients), (head, body))) rest
    (is.0, ((is.1.0, is.1.1.0), is.1.1.1)))
fact_again (Sent host recipient reply) rest is =
    kind_again IsFact fact_form fact_by 1 (Sent host recipient reply)
    (with_length host ++ (address_form recipient ++ reply_form reply)) rest (omega arith)
    (join_4 (to_le_bytes w8 1) (with_length host) (address_form recipient) (reply_form reply))
    (made_again (both_row domain_row (both_row address_row reply_row)) sent_of (host, (recipient, reply)) rest is)
fact_again (Retry host recipients attempt due) rest is =
    kind_again IsFact fact_form fact_by 2 (Retry host recipients attempt due)
    (with_length host ++ (recipients_form recipients ++ (to_le_bytes w32 attempt ++ to_le_bytes w64 due))) rest (omega arith)
    (join_5 (to_le_bytes w8 2) (with_length host) (recipients_form recipients) (to_le_bytes w32 attempt) (to_le_bytes w64 due))
    (made_again (both_row domain_row (both_row recipients_row (both_row word_row long_row))) retry_of (host, (recipients, (attempt, due))) rest is)
fact_again (Bounce recipients) rest is =
    kind_again IsFact fact_form fact_by 3 (Bounce recipients) (recipients_form recipients) rest (omega arith) refl
    (made_again recipients_row Bounce recipients rest is)
fact_again (Dropped why recipients) rest is =
    kind_again IsFact fact_form fact_by 4 (Dropped why recipients) (why_form why ++ recipients_form recipients) rest (omega arith)
    (append_assoc (to_le_bytes w8 4) (why_form why) (recipients_form recipients))
    (made_again (both_row why_row recipients_row) dropped_of (why, recipients) rest (tt, is))
fact_again (FellOff processor recipients) rest is =
    kind_again IsFact fact_form fact_by 5 (FellOff processor recipients) (with_length processor ++ recipients_form recipients) rest (omega arith)
    (append_assoc (to_le_bytes w8 5) (with_length processor) (recipients_form recipients))
    (made_again (both_row string_row recipients_row) felloff_of (processor, recipients) rest is)
fact_again (Looped recipients) rest is =
    kind_again IsFact fact_form fact_by 6 (Looped recipients) (recipients_form recipients) rest (omega arith) refl
    (made_again recipients_row Looped recipients rest is)
fact_again Overrun rest is = kind_again IsFact fact_form fact_by 7 Overrun [] rest (omega arith) refl refl

deposit_kind : IsKind IsFact fact_form 0 (fact_by 0)
deposit_kind =
    made_kind IsFact fact_form (both_row string_row (both_row envelope_row message_row)) deposit_of 0
    (λ parts is. (is.0, (is.1.0.0, (is.1.0.1, is.1.1))))
    (λ parts. join_4 (to_le_bytes w8 0) (with_length parts.0) (envelope_form parts.1.0.0 parts.1.0.1) (message_form parts.1.1.0 parts.1.1.1))

sent_kind : IsKind IsFact fact_form 1 (fact_by 1)
sent_kind =
    made_kind IsFact fact_form (both_row domain_row (both_row address_row reply_row)) sent_of 1 (λ parts is. is)
    (λ parts. join_4 (to_le_bytes w8 1) (with_length parts.0) (address_form parts.1.0) (reply_form parts.1.1))

retry_kind : IsKind IsFact fact_form 2 (fact_by 2)
retry_kind =
    made_kind IsFact fact_form (both_row domain_row (both_row recipients_row (both_row word_row long_row))) retry_of 2 (λ parts is. is)
    (λ parts. join_5 (to_le_bytes w8 2) (with_length parts.0) (recipients_form parts.1.0) (to_le_bytes w32 parts.1.1.0) (to_le_bytes w64 parts.1.1.1))

bounce_kind : IsKind IsFact fact_form 3 (fact_by 3)
bounce_kind = made_kind IsFact fact_form recipients_row Bounce 3 (λ recipients is. is) (λ recipients. refl)

dropped_kind : IsKind IsFact fact_form 4 (fact_by 4)
dropped_kind =
    made_kind IsFact fact_form (both_row why_row recipients_row) dropped_of 4 (λ parts is. is.1)
    (λ parts. append_assoc (to_le_bytes w8 4) (why_form parts.0) (recipients_form parts.1))

felloff_kind : IsKind IsFact fact_form 5 (fact_by 5)
felloff_kind =
    made_kind IsFact fact_form (both_row string_row recipients_row) felloff_of 5 (λ parts is. is)
    (λ parts. append_assoc (to_le_bytes w8 5) (with_length parts.0) (recipients_form parts.1))

looped_kind : IsKind IsFact fact_form 6 (fact_by 6)
looped_kind = made_kind IsFact fact_form recipients_row Looped 6 (λ recipients is. is) (λ recipients. refl)

overrun_kind : IsKind IsFact fact_form 7 (fact_by 7)
overrun_kind = one_kind IsFact fact_form Overrun 7 tt refl

fact_kinds : (kind : ℕ) → IsKind IsFact fact_form kind (fact_by kind)
fact_kinds kind =
    if_kind IsFact fact_form kind 0 deposit_kind
    (if_kind IsFact fact_form kind 1 sent_kind
    (if_kind IsFact fact_form kind 2 retry_kind
    (if_kind IsFact fact_form kind 3 bounce_kind
    (if_kind IsFact fact_form kind 4 dropped_kind
    (if_kind IsFact fact_form kind 5 felloff_kind
    (if_kind IsFact fact_form kind 6 looped_kind
    (if_kind IsFact fact_form kind 7 overrun_kind
    (no_kind IsFact fact_form kind))))))))

pub fact_row : IsRow IsFact fact_form fact_in
fact_row = kind_row IsFact fact_form fact_by fact_again fact_kinds
