-- Names, bodies, stages, and mails whole.
use Rattle.std.proofs.Common.{◌≡◌, ℕ, true, List, ◌++◌, Option, Some, refl, arith, append_assoc}
use Rattle.std.specs.Int.{w8, w32, w64, to_le_bytes}
use Rattle.mj_fields.specs.Fields.{with_length}
use Rattle.mj_address.specs.Grammar.{Mailbox}
use Rattle.mj_head.specs.Head.{is_head}
use Rattle.mj_mail.specs.Entry.{attributes_form, body_form, envelope_form, head_form, mail_form, message_form, name_form, new_mail_form, stage_form, standing_form}
use Rattle.mj_mail.specs.declared.mail.Body.{Body}
use Rattle.mj_mail.specs.declared.mail.Body.TheVariants.{Original, Made}
use Rattle.mj_mail.specs.declared.mail.Mail.{Mail}
use Rattle.mj_mail.specs.declared.mail.Stage.{Stage}
use Rattle.mj_mail.specs.declared.mail.Stage.TheVariants.{Process, Remote}
use Rattle.mj_entry_rows.specs.Forms.{AreAddressed, AreStrings, IsBody, IsCounted, IsMail, IsName, IsNewMail, IsSender, IsStage}
use Rattle.mj_entry_rows.specs.Items.{MailParts, body_by, body_in, envelope_in, mail_in, mail_of, message_in, name_in, name_of, new_mail_in, new_mail_of, stage_by, stage_in, standing_in}
use Rattle.mj_entry_rows.specs.Readings.{IsRow, kind_in}
use Rattle.mj_entry_rows.proofs.Addresses.{domain_row, recipients_row, sender_row}
use Rattle.mj_entry_rows.proofs.AttributeLists.{attributes_row}
use Rattle.mj_entry_rows.proofs.Heads.{head_row}
use Rattle.mj_entry_rows.proofs.Joins.{join_4, join_6}
use Rattle.mj_entry_rows.proofs.KindRows.{if_kind, kind_again, kind_row, made_kind, no_kind}
use Rattle.mj_entry_rows.proofs.Lists.{list_row}
use Rattle.mj_entry_rows.proofs.Numbers.{long_row, string_row, word_row}
use Rattle.mj_entry_rows.proofs.Rows.{both_row, made_again, made_row, same_form}

pub name_row : IsRow IsName name_form name_in
name_row =
    made_row (both_row long_row (list_row word_row)) name_of (λ name. (name.number, name.path)) IsName name_form
    (λ name. refl)
    (λ parts is. record { number = is.0; path = is.1 })
    (λ name is. (is.number, is.path))
    (λ parts. refl)

-- ---- Bodies

body_again : (body : Body) (rest : List ℕ) → IsBody body → kind_in body_by (body_form body ++ rest) ≡ Some (body, rest)
body_again (Original number len) rest is =
    kind_again IsBody body_form body_by 0 (Original number len) (to_le_bytes w64 number ++ to_le_bytes w32 len) rest (omega arith)
    (append_assoc (to_le_bytes w8 0) (to_le_bytes w64 number) (to_le_bytes w32 len))
    (made_again (both_row long_row word_row) (λ (parts : ℕ × ℕ). Original parts.0 parts.1) (number, len) rest is)
body_again (Made bytes) rest is =
    kind_again IsBody body_form body_by 1 (Made bytes) (with_length bytes) rest (omega arith) refl (made_again string_row Made bytes rest is)

pub body_row : IsRow IsBody body_form body_in
body_row =
    kind_row IsBody body_form body_by body_again
    (λ kind.
    if_kind IsBody body_form kind 0
    (made_kind IsBody body_form (both_row long_row word_row) (λ (parts : ℕ × ℕ). Original parts.0 parts.1) 0 (λ parts is. is)
    (λ parts. append_assoc (to_le_bytes w8 0) (to_le_bytes w64 parts.0) (to_le_bytes w32 parts.1)))
    (if_kind IsBody body_form kind 1 (made_kind IsBody body_form string_row Made 1 (λ bytes is. is) (λ bytes. refl)) (no_kind IsBody body_form kind)))

-- ---- Stages

abbrev remote_of : List ℕ × (List ℕ × ℕ) → Stage
remote_of parts = Remote parts.0 parts.1.0 parts.1.1

stage_again : (stage : Stage) (rest : List ℕ) → IsStage stage → kind_in stage_by (stage_form stage ++ rest) ≡ Some (stage, rest)
stage_again (Process state) rest is =
    kind_again IsStage stage_form stage_by 0 (Process state) (with_length state) rest (omega arith) refl (made_again string_row Process state rest is)
stage_again (Remote delivery host attempt) rest is =
    kind_again IsStage stage_form stage_by 1 (Remote delivery host attempt)
    (with_length delivery ++ (with_length host ++ to_le_bytes w32 attempt)) rest (omega arith)
    (join_4 (to_le_bytes w8 1) (with_length delivery) (with_length host) (to_le_bytes w32 attempt))
    (made_again (both_row string_row (both_row domain_row word_row)) remote_of (delivery, (host, attempt)) rest is)

pub stage_row : IsRow IsStage stage_form stage_in
stage_row =
    kind_row IsStage stage_form stage_by stage_again
    (λ kind.
    if_kind IsStage stage_form kind 0 (made_kind IsStage stage_form string_row Process 0 (λ state is. is) (λ state. refl))
    (if_kind IsStage stage_form kind 1
    (made_kind IsStage stage_form (both_row string_row (both_row domain_row word_row)) remote_of 1 (λ parts is. is)
    (λ parts. join_4 (to_le_bytes w8 1) (with_length parts.0) (with_length parts.1.0) (to_le_bytes w32 parts.1.1)))
    (no_kind IsStage stage_form kind)))

-- ---- The parts of a mail

pub envelope_row : IsRow (λ (parts : Option Mailbox × List Mailbox). IsSender parts.0 × AreAddressed parts.1)
    (λ parts. envelope_form parts.0 parts.1) envelope_in
envelope_row = both_row sender_row recipients_row

pub message_row : IsRow (λ (parts : List (List ℕ × List ℕ) × Body). (is_head parts.0 ≡ true) × IsBody parts.1)
    (λ parts. message_form parts.0 parts.1) message_in
message_row = both_row head_row body_row

pub standing_row : IsRow (λ (parts : List (List ℕ × List ℕ) × (Stage × List ℕ)). AreStrings parts.0 × (IsStage parts.1.0 × IsCounted parts.1.1))
    (λ parts. standing_form parts.0 parts.1.0 parts.1.1) standing_in
standing_row =
    same_form (both_row attributes_row (both_row stage_row string_row)) (λ parts. standing_form parts.0 parts.1.0 parts.1.1)
    (λ parts. append_assoc (attributes_form parts.0) (stage_form parts.1.0) (with_length parts.1.1))

-- ---- Mails

abbrev mail_parts : Mail → MailParts
mail_parts mail =
    (mail.name, ((mail.sender, mail.recipients), ((mail.attributes, (mail.stage, mail.error)), ((mail.head, mail.body), (mail.hops, mail.due)))))

pub mail_row : IsRow IsMail mail_form mail_in
mail_row =
    made_row (both_row name_row (both_row envelope_row (both_row standing_row (both_row message_row (both_row word_row long_row)))))
    mail_of mail_parts IsMail mail_form
    (λ mail. refl)
    (λ parts is. record {
      name = is.0;
      sender = is.1.0.0;
      recipients = is.1.0.1;
      attributes = is.1.1.0.0;
      stage = is.1.1.0.1.0;
      error = is.1.1.0.1.1;
      head = is.1.1.1.0.0;
      body = is.1.1.1.0.1;
      hops = is.1.1.1.1.0;
      due = is.1.1.1.1.1;
    })
    (λ mail is. (is.name, ((is.sender, is.recipients), ((is.attributes, (is.stage, is.error)), ((is.head, is.body), (is.hops, is.due))))))
    (λ parts.
    join_6 (name_form parts.0) (envelope_form parts.1.0.0 parts.1.0.1) (standing_form parts.1.1.0.0 parts.1.1.0.1.0 parts.1.1.0.1.1)
    (message_form parts.1.1.1.0.0 parts.1.1.1.0.1) (to_le_bytes w32 parts.1.1.1.1.0) (to_le_bytes w64 parts.1.1.1.1.1))

pub new_mail_row : IsRow IsNewMail new_mail_form new_mail_in
new_mail_row =
    made_row (both_row envelope_row (both_row head_row string_row)) new_mail_of
    (λ new. ((new.sender, new.recipients), (new.head, new.body))) IsNewMail new_mail_form
    (λ new. refl)
    (λ parts is. record { sender = is.0.0; recipients = is.0.1; head = is.1.0; body = is.1.1 })
    (λ new is. ((is.sender, is.recipients), (is.head, is.body)))
    (λ parts. append_assoc (envelope_form parts.0.0 parts.0.1) (head_form parts.1.0) (with_length parts.1.1))
