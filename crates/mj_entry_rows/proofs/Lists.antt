-- Lists behind their count, each item of which fits those before it.
use Rattle.std.proofs.Common.{◌≡◌, ℕ, zero, suc, ◌<◌, ◌^◌, Bool, true, if◌then◌else◌, List, [], ◌∷◌, ◌++◌, length, Some, None, refl, sym, ap, ◌∙◌, subst, append_assoc, append-nil}
use Rattle.std.specs.Int.{w32, to_le_bytes}
use Rattle.std.specs.List.{AllByRecursion, flat_map}
use Rattle.mj_mail.specs.Entry.{list_form}
use Rattle.mj_entry_rows.specs.Forms.{AreEach, IsCounted}
use Rattle.mj_entry_rows.specs.Readings.{AreBytes, IsRow, Reading, fitting_in, list_in, more_in, number_in, then_in}
use Rattle.mj_entry_rows.proofs.Numbers.{word_row}
use Rattle.mj_entry_rows.proofs.Rows.{parts_in, passed, rest_bytes, same_found, same_row}

-- each item is one, and fits those so far
abbrev pub AreFitting : {X : Type 0} → (X → Type 0) → (List X → X → Bool) → List X → List X → Type 0
AreFitting Is fits so_far [] = Unit {0}
AreFitting Is fits so_far (x ∷ xs) = Is x × ((fits so_far x ≡ true) × AreFitting Is fits (so_far ++ x ∷ []) xs)

module _ {X : Type 0} {Is : X → Type 0} {form : X → List ℕ} {read : Reading X} (row : IsRow Is form read) (fits : List X → X → Bool) where
  abbrev step : List X → ℕ → X → Reading (List X)
  step so_far count item rest = if fits so_far item then more_in read fits (so_far ++ item ∷ []) count rest else None

  more_again : (xs so_far : List X) (rest : List ℕ) → AreFitting Is fits so_far xs
      → more_in read fits so_far (length xs) (flat_map form xs ++ rest) ≡ Some (so_far ++ xs, rest)
  more_again [] so_far rest fit = ap (λ (l : List X). Some (l, rest)) (sym (append-nil so_far))
  more_again (x ∷ xs) so_far rest fit =
      ap (more_in read fits so_far (suc (length xs))) (append_assoc (form x) (flat_map form xs) rest)
      ∙ ap (λ found. then_in found (step so_far (length xs))) (row.again x (flat_map form xs ++ rest) fit.0)
      ∙ ap (λ (b : Bool). if b then more_in read fits (so_far ++ x ∷ []) (length xs) (flat_map form xs ++ rest) else None) fit.1.0
      ∙ more_again xs (so_far ++ x ∷ []) rest fit.1.1
      ∙ ap (λ (l : List X). Some (l, rest)) (append_assoc so_far (x ∷ []) xs)

  -- these items were read
  record AreMore (so_far : List X) (count : ℕ) (bytes : List ℕ) (all : List X) (rest : List ℕ) : Type 0 where
    items : List X
    size : length items ≡ count
    grown : so_far ++ items ≡ all
    fit : AreFitting Is fits so_far items
    whole : bytes ≡ flat_map form items ++ rest

  more_written : (count : ℕ) (so_far : List X) (bytes : List ℕ) (all : List X) (rest : List ℕ) → AreBytes bytes
      → more_in read fits so_far count bytes ≡ Some (all, rest)
      → AreMore so_far count bytes all rest
  more_written zero so_far bytes all rest small h =
      let same = same_found (so_far, bytes) (all, rest) h in
      record { items = []; size = refl; grown = append-nil so_far ∙ same.0; fit = tt; whole = same.1 }
  more_written (suc count) so_far bytes all rest small h =
      let one = parts_in (read bytes) (step so_far count) all rest h in
      let pass = passed (fits so_far one.item) (more_in read fits (so_far ++ one.item ∷ []) count one.behind) (all, rest) one.goes_on in
      let item = row.written bytes one.item one.behind small one.read in
      let more = more_written count (so_far ++ one.item ∷ []) one.behind all rest (rest_bytes row bytes one.item one.behind small one.read) pass.1 in
      record {
        items = one.item ∷ more.items;
        size = ap suc more.size;
        grown = sym (append_assoc so_far (one.item ∷ []) more.items) ∙ more.grown;
        fit = (item.0, (pass.0, more.fit));
        whole = item.1 ∙ ap (λ l. form one.item ++ l) more.whole ∙ sym (append_assoc (form one.item) (flat_map form more.items) rest);
      }

  fitting_again : (xs : List X) (rest : List ℕ) → IsCounted xs × AreFitting Is fits [] xs
      → fitting_in read fits (list_form form xs ++ rest) ≡ Some (xs, rest)
  fitting_again xs rest is =
      ap (fitting_in read fits) (append_assoc (to_le_bytes w32 (length xs)) (flat_map form xs) rest)
      ∙ ap (λ found. then_in found (more_in read fits [])) (word_row.again (length xs) (flat_map form xs ++ rest) is.0)
      ∙ more_again xs [] rest is.1

  fitting_written : (bytes : List ℕ) (xs : List X) (rest : List ℕ) → AreBytes bytes → fitting_in read fits bytes ≡ Some (xs, rest)
      → (IsCounted xs × AreFitting Is fits [] xs) × (bytes ≡ list_form form xs ++ rest)
  fitting_written bytes xs rest small h =
      let one = parts_in (number_in w32 bytes) (more_in read fits []) xs rest h in
      let count = word_row.written bytes one.item one.behind small one.read in
      let more = more_written one.item [] one.behind xs rest (rest_bytes word_row bytes one.item one.behind small one.read) one.goes_on in
      let whole : bytes ≡ list_form form more.items ++ rest =
      count.1
      ∙ (λ i. to_le_bytes w32 (sym more.size i) ++ more.whole i)
      ∙ sym (append_assoc (to_le_bytes w32 (length more.items)) (flat_map form more.items) rest) in
      let counted : IsCounted more.items = subst (λ n. n < 2 ^ 32) (sym more.size) count.0 in
      subst (λ (l : List X). (IsCounted l × AreFitting Is fits [] l) × (bytes ≡ list_form form l ++ rest)) more.grown ((counted, more.fit), whole)

  -- a list whose items fit
  pub fitting_row : IsRow (λ (xs : List X). IsCounted xs × AreFitting Is fits [] xs) (list_form form) (fitting_in read fits)
  fitting_row = record { again = fitting_again; written = fitting_written }

-- ---- Lists of any items

pub all_of_fitting : {X : Type 0} (Is : X → Type 0) (fits : List X → X → Bool) (so_far xs : List X) → AreFitting Is fits so_far xs
    → AllByRecursion Is xs
all_of_fitting Is fits so_far [] fit = tt
all_of_fitting Is fits so_far (x ∷ xs) fit = (fit.0, all_of_fitting Is fits (so_far ++ x ∷ []) xs fit.1.1)

fitting_of_all : {X : Type 0} (Is : X → Type 0) (so_far xs : List X) → AllByRecursion Is xs → AreFitting Is (λ so_far item. true) so_far xs
fitting_of_all Is so_far [] all = tt
fitting_of_all Is so_far (x ∷ xs) all = (all.0, (refl, fitting_of_all Is (so_far ++ x ∷ []) xs all.1))

-- a list of any such items
pub list_row : {X : Type 0} {Is : X → Type 0} {form : X → List ℕ} {read : Reading X} → IsRow Is form read
    → IsRow (AreEach Is) (list_form form) (list_in read)
list_row {X} {Is} row =
    same_row (fitting_row row (λ so_far item. true)) (AreEach Is)
    (λ xs fit. record { counted = fit.0; each = all_of_fitting Is (λ so_far item. true) [] xs fit.1 })
    (λ xs are. (are.counted, fitting_of_all Is [] xs are.each))
