-- The parts of a list round its first element that passes a test.
use Rattle.std.proofs.Common.{◌≡◌, ℕ, ◌+◌, ◌-◌, ◌<◌, ◌≤◌, Bool, true, false, List, [], ◌∷◌, length, take, drop, Some, None, refl, sym, ap, ◌∙◌, arith, position, length-drop}
use Rattle.std.specs.List.{slice_split, position_or_len}
use Rattle.std.proofs.lemmas.Grind.{common_steps}
use Rattle.std.proofs.lemmas.Bool.Decides.{nat_tests}
use Rattle.std.proofs.lemmas.List.{take_all}
use Rattle.std.proofs.lemmas.List.Splits.{slice_split_first}

one_more : (p : ℕ → Bool) (x : ℕ) (xs : List ℕ) (b : Bool) → p x ≡ b → (length xs ≤ position_or_len p xs → slice_split p xs ≡ xs ∷ []) → length (x ∷ xs) ≤ position_or_len p (x ∷ xs) → slice_split p (x ∷ xs) ≡ (x ∷ xs) ∷ []
one_more p x xs true e ih h = grind (arith, common_steps)
one_more p x xs false e ih h = grind (arith, common_steps, ih)

one_part : (p : ℕ → Bool) (xs : List ℕ) → length xs ≤ position_or_len p xs → slice_split p xs ≡ xs ∷ []
one_part p [] h = refl
one_part p (x ∷ xs) h = one_more p x xs (p x) refl (one_part p xs) h

-- a list that no element cuts is its only part
pub uncut : (p : ℕ → Bool) (xs : List ℕ) → position p xs ≡ None → slice_split p xs ≡ xs ∷ []
uncut p xs h = one_part p xs (grind (arith, nat_tests))

-- the first part ends where the first such element stands, and the others are those of what stands behind it
pub cut_at : (p : ℕ → Bool) (xs : List ℕ) (k : ℕ) → position p xs ≡ Some k → slice_split p xs ≡ take k xs ∷ slice_split p (take (length xs - (k + 1)) (drop (k + 1) xs))
cut_at p xs k h =
    let lt : position_or_len p xs < length xs = grind (arith, nat_tests) in
    let at : position_or_len p xs ≡ k = grind (arith, nat_tests) in
    let all : take (length xs - (k + 1)) (drop (k + 1) xs) ≡ drop (k + 1) xs = take_all _ _ (omega (arith, length-drop (k + 1) xs)) in
    slice_split_first p xs 0 lt ∙ ap (λ n. take n xs ∷ slice_split p (drop (n + 1) xs)) at ∙ ap (λ rest. take k xs ∷ slice_split p rest) (sym all)
