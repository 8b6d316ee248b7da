-- Entries: what was written is read again, and nothing else is read.
use Rattle.std.proofs.Common.{◌≡◌, ℕ, ◌==◌, List, [], ◌++◌, length, Option, Some, None, refl, sym, ap, ◌∙◌, arith, append-nil, eqb-true}
use Rattle.std.specs.Int.{w8, w64, to_le_bytes}
use Rattle.std.proofs.lemmas.List.{nil_from_length}
use Rattle.mj_fields.specs.Fields.{with_length}
use Rattle.mj_mail.specs.Entry.{entry_form, fact_form, list_form, mail_form, name_form, new_mail_form, reply_form}
use Rattle.mj_mail.specs.declared.entry.Entry.{Entry}
use Rattle.mj_mail.specs.declared.entry.Entry.TheVariants.{Setup, Accept, Done}
use Rattle.mj_mail.specs.declared.fact.Fact.{Fact}
use Rattle.mj_mail.specs.declared.mail.Mail.{Mail}
use Rattle.mj_mail.specs.declared.mail.NewMail.{NewMail}
use Rattle.mj_mail.specs.declared.name.Name.{Name}
use Rattle.mj_mail.specs.declared.reply.Reply.{Reply}
use Rattle.mj_entry_rows.specs.Forms.{IsEntry}
use Rattle.mj_entry_rows.specs.Items.{entry_by, entry_in, entry_of, outcome_of}
use Rattle.mj_entry_rows.specs.Readings.{AreBytes, IsRow, alone, kind_in}
use Rattle.mj_entry_rows.proofs.Facts.{fact_row, reply_row}
use Rattle.mj_entry_rows.proofs.Joins.{join_4, join_5}
use Rattle.mj_entry_rows.proofs.KindRows.{IsKind, if_kind, kind_again, kind_row, made_kind, no_kind}
use Rattle.mj_entry_rows.proofs.Lists.{list_row}
use Rattle.mj_entry_rows.proofs.Mails.{mail_row, name_row, new_mail_row}
use Rattle.mj_entry_rows.proofs.Numbers.{long_row, string_row}
use Rattle.mj_entry_rows.proofs.Rows.{both_row, made_again, passed}

abbrev accept_of : ℕ × (List ℕ × NewMail) → Entry
accept_of parts = Accept parts.0 parts.1.0 parts.1.1

abbrev done_of : Name × (List Reply × (List Fact × List Mail)) → Entry
done_of parts = Done parts.0 parts.1.0 (outcome_of parts.1.1)

-- ---- The row

again : (entry : Entry) (rest : List ℕ) → IsEntry entry → kind_in entry_by (entry_form entry ++ rest) ≡ Some (entry, rest)
again (Setup plan) rest is =
    kind_again IsEntry entry_form entry_by 0 (Setup plan) (with_length plan) rest (omega arith) refl (made_again string_row Setup plan rest is)
again (Accept number file new) rest is =
    kind_again IsEntry entry_form entry_by 1 (Accept number file new)
    (to_le_bytes w64 number ++ (with_length file ++ new_mail_form new)) rest (omega arith)
    (join_4 (to_le_bytes w8 1) (to_le_bytes w64 number) (with_length file) (new_mail_form new))
    (made_again (both_row long_row (both_row string_row new_mail_row)) accept_of (number, (file, new)) rest (is.long, (is.named, is.mail)))
again (Done name replies outcome) rest is =
    kind_again IsEntry entry_form entry_by 2 (Done name replies outcome)
    (name_form name ++ (list_form reply_form replies ++ (list_form fact_form outcome.facts ++ list_form mail_form outcome.children))) rest (omega arith)
    (join_5 (to_le_bytes w8 2) (name_form name) (list_form reply_form replies) (list_form fact_form outcome.facts)
    (list_form mail_form outcome.children))
    (made_again (both_row name_row (both_row (list_row reply_row) (both_row (list_row fact_row) (list_row mail_row)))) done_of
    (name, (replies, (outcome.facts, outcome.children))) rest (is.named, (is.answered, (is.facts, is.children))))

pub setup_kind : IsKind IsEntry entry_form 0 (entry_by 0)
setup_kind = made_kind IsEntry entry_form string_row Setup 0 (λ plan is. is) (λ plan. refl)

-- what is read as an accepted mail was written so
pub accept_kind : IsKind IsEntry entry_form 1 (entry_by 1)
accept_kind =
    made_kind IsEntry entry_form (both_row long_row (both_row string_row new_mail_row)) accept_of 1
    (λ parts is. record { long = is.0; named = is.1.0; mail = is.1.1 })
    (λ parts. join_4 (to_le_bytes w8 1) (to_le_bytes w64 parts.0) (with_length parts.1.0) (new_mail_form parts.1.1))

-- and so was what is read as a step
pub done_kind : IsKind IsEntry entry_form 2 (entry_by 2)
done_kind =
    made_kind IsEntry entry_form (both_row name_row (both_row (list_row reply_row) (both_row (list_row fact_row) (list_row mail_row)))) done_of 2
    (λ parts is. record { named = is.0; answered = is.1.0; facts = is.1.1.0; children = is.1.1.1 })
    (λ parts.
    join_5 (to_le_bytes w8 2) (name_form parts.0) (list_form reply_form parts.1.0) (list_form fact_form parts.1.1.0) (list_form mail_form parts.1.1.1))

kinds : (kind : ℕ) → IsKind IsEntry entry_form kind (entry_by kind)
kinds kind =
    if_kind IsEntry entry_form kind 0 setup_kind
    (if_kind IsEntry entry_form kind 1 accept_kind
    (if_kind IsEntry entry_form kind 2 done_kind
    (no_kind IsEntry entry_form kind)))

pub entry_row : IsRow IsEntry entry_form entry_in
entry_row = kind_row IsEntry entry_form entry_by again kinds

-- ---- Whole bytes

-- nothing stands behind an item that is alone
found_alone : (found : Option (Entry × List ℕ)) (entry : Entry) → alone found ≡ Some entry → found ≡ Some (entry, [])
found_alone None entry h = absurd (cc)
found_alone (Some found) entry h =
    let pass = passed (length found.1 == 0) (Some found.0) entry h in
    let same : found.0 ≡ entry = cc in
    let nil : found.1 ≡ [] = nil_from_length found.1 (eqb-true (length found.1) 0 pass.0) in
    λ i. Some (same i, nil i)

-- an entry that was written is read again
pub entry_again : (entry : Entry) → IsEntry entry → entry_of (entry_form entry) ≡ Some entry
entry_again entry is = ap entry_of (sym (append-nil (entry_form entry))) ∙ ap alone (entry_row.again entry [] is)

-- what is read of bytes was written so
pub entry_written : (bytes : List ℕ) (entry : Entry) → AreBytes bytes → entry_of bytes ≡ Some entry → IsEntry entry × (entry_form entry ≡ bytes)
entry_written bytes entry small h =
    let row = entry_row.written bytes entry [] small (found_alone (entry_in bytes) entry h) in
    (row.0, sym (row.1 ∙ append-nil (entry_form entry)))

-- where nothing is read, no entry was written
pub no_entry : (bytes : List ℕ) → entry_of bytes ≡ None → (entry : Entry) → IsEntry entry → entry_form entry ≡ bytes → ⊥
no_entry bytes none entry is same =
    let found : Some entry ≡ None = sym (entry_again entry is) ∙ ap entry_of same ∙ none in
    absurd (cc)

-- two entries with one form are one
pub one_entry : (a b : Entry) → IsEntry a → IsEntry b → entry_form a ≡ entry_form b → a ≡ b
one_entry a b is other same =
    let found : Some a ≡ Some b = sym (entry_again a is) ∙ ap entry_of same ∙ entry_again b other in
    cc
