-- The ends of fields in a block, counted by the bits of a mask.
use Rattle.std.proofs.Common.{◌≡◌, ℕ, zero, suc, ◌+◌, ◌%◌, ◌^◌, ◌<◌, ◌≤◌, Bool, true, false, not, ◌&&◌, ◌==◌, cond, List, [], ◌∷◌, length, drop, get_or, inl, inr, sym, ap, ◌∙◌, arith}
use Rattle.std.specs.Int.Count.{ones, ones_in}
use Rattle.std.proofs.Math.Nat.{mod-eq_of_lt}
use Rattle.std.proofs.lemmas.Bool.{cases_Bool, cond-false, cond-true}
use Rattle.std.proofs.lemmas.List.{drop_more}
use Rattle.mj_terms.specs.Text.{is_blank}
use Rattle.mj_head_lines.specs.Ends.{begins_blank, field_ends}
use Rattle.mj_head_lines.specs.Plain.{has_bit}
use Rattle.mj_head_lines.proofs.Count.{ones-set, ones-unset}

-- no more fields end than there are bytes
pub few_ends : (text : List ℕ) → field_ends text ≤ length text
few_ends [] = omega arith
few_ends (b ∷ text) = few_more (b == 10 && not (begins_blank text)) (few_ends text)
  where
    few_more : (ends : Bool) {count size : ℕ} → count ≤ size → cond ends 1 0 + count ≤ suc size
    few_more true h = omega arith
    few_more false h = omega arith

-- a field ends at this place
abbrev pub ends_at : List ℕ → ℕ → Bool
ends_at text k = get_or text k 0 == 10 && not (is_blank (get_or text (suc k) 0))

module _ (text : List ℕ) (k : ℕ) (inside : suc k < length text) where
  front : (place : ℕ) → place < length text → drop place text ≡ get_or text place 0 ∷ drop (suc place) text
  front place within =
      let next : place + 1 ≡ suc place = omega arith in
      drop_more text place 0 within ∙ ap (λ (n : ℕ). get_or text place 0 ∷ drop n text) next

  one_place : field_ends (drop k text) ≡ cond (ends_at text k) 1 0 + field_ends (drop (suc k) text)
  one_place =
      ap field_ends (front k (omega arith))
      ∙ ap (λ (behind : List ℕ). cond (get_or text k 0 == 10 && not (begins_blank behind)) 1 0 + field_ends (drop (suc k) text)) (front (suc k) inside)

module _ (text : List ℕ) (mask : ℕ) (size : 64 ≤ length text) (first : has_bit mask 0 ≡ false)
    (marks : (k : ℕ) → k < 63 → has_bit mask (suc k) ≡ ends_at text k) where
  so_far : (k : ℕ) → k ≤ 63 → field_ends text ≡ ones (mask % 2 ^ suc k) + field_ends (drop k text)
  unfolding ones ones_in
  so_far zero small =
      let none : mask % 2 ^ 0 ≡ 0 = omega arith in
      let low : ones (mask % 2 ^ 0) ≡ 0 = ap ones none in
      omega (arith, ones-unset mask 0 first, low)
  so_far (suc k) small =
      let before = so_far k (omega arith) in
      let here = one_place text k (omega arith) in
      let bit = marks k (omega arith) in
      elim (cases_Bool (has_bit mask (suc k))) [
        | inl set ↦ omega (arith, before, here, cond-true {A = ℕ} (ends_at text k) 1 0 (sym bit ∙ set), ones-set mask (suc k) set)
        | inr unset ↦ omega (arith, before, here, cond-false {A = ℕ} (ends_at text k) 1 0 (sym bit ∙ unset), ones-unset mask (suc k) unset)
      ]

  pub in_block : mask < 2 ^ 64 → field_ends text ≡ ones mask + field_ends (drop 63 text)
  in_block fits = so_far 63 (omega arith) ∙ ap (λ (m : ℕ). ones m + field_ends (drop 63 text)) (mod-eq_of_lt fits)
