-- Heads: each field makes one with those before it.
use Rattle.std.proofs.Common.{◌≡◌, ◌≤◌, true, List, [], ◌∷◌, ◌++◌, length, refl, sym, ap, ◌∙◌, arith, append_assoc, append-nil}
use Rattle.mj_head.specs.Head.{RawField, is_field, is_head, written}
use Rattle.mj_head.proofs.Changes.{head_fields, head_short, is_head_from, length-written-append, length-written-cons, list_all_parts}
use Rattle.mj_mail.specs.Entry.{head_form}
use Rattle.mj_entry_rows.specs.Forms.{IsCounted}
use Rattle.mj_entry_rows.specs.Items.{head_in, is_next_field}
use Rattle.mj_entry_rows.specs.Readings.{IsRow}
use Rattle.mj_entry_rows.proofs.Lists.{AreFitting, fitting_row}
use Rattle.mj_entry_rows.proofs.Numbers.{IsPair, pair_row}
use Rattle.mj_entry_rows.proofs.Rows.{same_row}

-- the first fields of a head are one
front_head : (fields more : List RawField) → is_head (fields ++ more) ≡ true → is_head fields ≡ true
front_head fields more head =
    is_head_from fields (list_all_parts is_field fields more (head_fields (fields ++ more) head)).0
    (omega (arith, head_short (fields ++ more) head, length-written-append fields more))

-- a field of a head can be counted
field_counted : (before : List RawField) (field : RawField) (rest : List RawField) → is_head (before ++ field ∷ rest) ≡ true → IsPair field
field_counted before field rest head =
    let short = head_short (before ++ field ∷ rest) head in
    let size = length-written-append before (field ∷ rest) in
    let one = length-written-cons field rest in
    (omega arith, omega arith)

written_len : (fields : List RawField) → length fields ≤ length (written fields)
written_len [] = omega arith
written_len (field ∷ fields) = omega (arith, length-written-cons field fields, written_len fields)

head_counted : (fields : List RawField) → is_head fields ≡ true → IsCounted fields
head_counted fields head = omega (arith, head_short fields head, written_len fields)

fitting_head : (so_far fields : List RawField) → is_head so_far ≡ true → AreFitting IsPair is_next_field so_far fields
    → is_head (so_far ++ fields) ≡ true
fitting_head so_far [] head fit = ap is_head (append-nil so_far) ∙ head
fitting_head so_far (field ∷ fields) head fit =
    ap is_head (sym (append_assoc so_far (field ∷ []) fields)) ∙ fitting_head (so_far ++ field ∷ []) fields fit.1.0 fit.1.1

head_fitting : (so_far fields : List RawField) → is_head (so_far ++ fields) ≡ true → AreFitting IsPair is_next_field so_far fields
head_fitting so_far [] head = tt
head_fitting so_far (field ∷ fields) head =
    let apart : is_head ((so_far ++ field ∷ []) ++ fields) ≡ true = ap is_head (append_assoc so_far (field ∷ []) fields) ∙ head in
    (field_counted so_far field fields head, (front_head (so_far ++ field ∷ []) fields apart, head_fitting (so_far ++ field ∷ []) fields apart))

pub head_row : IsRow (λ fields. is_head fields ≡ true) head_form head_in
head_row =
    same_row (fitting_row pair_row is_next_field) (λ fields. is_head fields ≡ true)
    (λ fields fit. fitting_head [] fields refl fit.1)
    (λ fields head. (head_counted fields head, head_fitting [] fields head))
