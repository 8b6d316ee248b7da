-- Items behind a number for their kind, and what may be missing.
use Rattle.std.proofs.Common.{◌≡◌, ℕ, ◌<◌, ◌^◌, ◌==◌, Bool, true, false, if◌then◌else◌, List, [], ◌++◌, Option, Some, None, refl, sym, ap, ◌∙◌, subst, arith, append_assoc, eqb-true}
use Rattle.std.specs.Int.{w8, to_le_bytes}
use Rattle.mj_mail.specs.Entry.{option_form}
use Rattle.mj_entry_rows.specs.Readings.{AreBytes, IsRow, Reading, kind_in, made_in, no_item, number_in, option_in, optional_in, then_in}
use Rattle.mj_entry_rows.proofs.Numbers.{byte_row}
use Rattle.mj_entry_rows.proofs.Rows.{made_again, made_written, parts_in, rest_bytes, same_found}

-- what is read behind the number of this kind was written so
pub record IsKind {X : Type 0} (Is : X → Type 0) (form : X → List ℕ) (kind : ℕ) (read : Reading X) : Type 0 where
  pub written : (bytes : List ℕ) (x : X) (rest : List ℕ) → AreBytes bytes → read bytes ≡ Some (x, rest)
      → Is x × (to_le_bytes w8 kind ++ bytes ≡ form x ++ rest)

module _ {X : Type 0} (Is : X → Type 0) (form : X → List ℕ) where
  -- nothing is of the kind
  pub no_kind : (kind : ℕ) → IsKind Is form kind no_item
  no_kind kind = record { written = λ bytes x rest small h. absurd (cc) }

  -- one item alone is of the kind
  pub one_kind : (x : X) (kind : ℕ) → Is x → form x ≡ to_le_bytes w8 kind → IsKind Is form kind (λ rest. Some (x, rest))
  one_kind x kind is same = record {
    written = λ bytes y rest small h.
        let found = same_found (x, bytes) (y, rest) h in
        subst (λ (z : X). Is z × (to_le_bytes w8 kind ++ bytes ≡ form z ++ rest)) found.0 (is, (λ i. sym same i ++ found.1 i));
  }

  -- the items of the kind are made of others
  pub made_kind : {Y : Type 0} {IsY : Y → Type 0} {form_y : Y → List ℕ} {read_y : Reading Y} → IsRow IsY form_y read_y → (make : Y → X) (kind : ℕ)
      → ((y : Y) → IsY y → Is (make y)) → ((y : Y) → form (make y) ≡ to_le_bytes w8 kind ++ form_y y) → IsKind Is form kind (made_in make read_y)
  made_kind {form_y} row make kind to same = record {
    written = λ bytes x rest small h.
        let m = made_written row make bytes x rest small h in
        let whole : to_le_bytes w8 kind ++ bytes ≡ form (make m.item) ++ rest =
        ap (λ l. to_le_bytes w8 kind ++ l) m.whole
        ∙ sym (append_assoc (to_le_bytes w8 kind) (form_y m.item) rest)
        ∙ ap (λ l. l ++ rest) (sym (same m.item)) in
        subst (λ (z : X). Is z × (to_le_bytes w8 kind ++ bytes ≡ form z ++ rest)) m.made (to m.item m.is, whole);
  }

  if_by : (kind value : ℕ) (test : Bool) (here others : Reading X) → (kind == value) ≡ test → IsKind Is form value here → IsKind Is form kind others
      → IsKind Is form kind (if test then here else others)
  if_by kind value true here others e at_value at_others = subst (λ (n : ℕ). IsKind Is form n here) (sym (eqb-true kind value e)) at_value
  if_by kind value false here others e at_value at_others = at_others

  -- one kind more
  pub if_kind : (kind value : ℕ) {here others : Reading X} → IsKind Is form value here → IsKind Is form kind others
      → IsKind Is form kind (if kind == value then here else others)
  if_kind kind value {here} {others} at_value at_others = if_by kind value (kind == value) here others refl at_value at_others

  -- an item behind its kind's number is read again
  pub kind_again : (by : ℕ → Reading X) (kind : ℕ) (x : X) (piece rest : List ℕ) → kind < 2 ^ 8 → form x ≡ to_le_bytes w8 kind ++ piece
      → by kind (piece ++ rest) ≡ Some (x, rest) → kind_in by (form x ++ rest) ≡ Some (x, rest)
  kind_again by kind x piece rest small same h =
      ap (λ l. kind_in by (l ++ rest)) same
      ∙ ap (kind_in by) (append_assoc (to_le_bytes w8 kind) piece rest)
      ∙ ap (λ found. then_in found by) (byte_row.again kind (piece ++ rest) small)
      ∙ h

  kind_written : (by : ℕ → Reading X) → ((kind : ℕ) → IsKind Is form kind (by kind)) → (bytes : List ℕ) (x : X) (rest : List ℕ) → AreBytes bytes
      → kind_in by bytes ≡ Some (x, rest) → Is x × (bytes ≡ form x ++ rest)
  kind_written by kinds bytes x rest small h =
      let one = parts_in (number_in w8 bytes) by x rest h in
      let kind = byte_row.written bytes one.item one.behind small one.read in
      let item = (kinds one.item).written one.behind x rest (rest_bytes byte_row bytes one.item one.behind small one.read) one.goes_on in
      (item.0, kind.1 ∙ item.1)

  -- items of all kinds
  pub kind_row : (by : ℕ → Reading X) → ((x : X) (rest : List ℕ) → Is x → kind_in by (form x ++ rest) ≡ Some (x, rest))
      → ((kind : ℕ) → IsKind Is form kind (by kind))
      → IsRow Is form (kind_in by)
  kind_row by again kinds = record { again = again; written = kind_written by kinds }

-- ---- Options

module _ {X : Type 0} {IsX : X → Type 0} {form_x : X → List ℕ} {read_x : Reading X} (row : IsRow IsX form_x read_x)
    (Is : Option X → Type 0) (none : Is None) (to : (x : X) → IsX x → Is (Some x)) (from : (x : X) → Is (Some x) → IsX x) where
  option_again : (item : Option X) (rest : List ℕ) → Is item → option_in read_x (option_form form_x item ++ rest) ≡ Some (item, rest)
  option_again None rest is = kind_again Is (option_form form_x) (optional_in read_x) 0 None [] rest (omega arith) refl refl
  option_again (Some x) rest is =
      kind_again Is (option_form form_x) (optional_in read_x) 1 (Some x) (form_x x) rest (omega arith) refl (made_again row Some x rest (from x is))

  -- what may be missing
  pub option_row : IsRow Is (option_form form_x) (option_in read_x)
  option_row =
      kind_row Is (option_form form_x) (optional_in read_x) option_again
      (λ kind.
      if_kind Is (option_form form_x) kind 0 (one_kind Is (option_form form_x) None 0 none refl)
      (if_kind Is (option_form form_x) kind 1 (made_kind Is (option_form form_x) row Some 1 to (λ x. refl)) (no_kind Is (option_form form_x) kind)))
