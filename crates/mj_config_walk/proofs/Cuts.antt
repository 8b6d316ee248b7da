-- The parts of a text round the first byte of a kind.
use Rattle.std.proofs.Common.{◌≡◌, ℕ, ◌+◌, ◌-◌, ◌<◌, ◌≤◌, ◌==◌, Bool, true, false, not, List, [], ◌∷◌, length, take, drop, map, Some, None, Option, refl, sym, ap, ◌∙◌, arith, position, length-drop}
use Rattle.std.specs.List.{slice_split, position_or_len}
use Rattle.std.proofs.lemmas.Grind.{common_steps}
use Rattle.std.proofs.lemmas.Bool.Decides.{nat_tests}
use Rattle.std.proofs.lemmas.List.{take_all}
use Rattle.std.proofs.lemmas.List.Sums.{take_while-cons}
use Rattle.mj_terms.specs.Text.{before, behind_byte, trimmed}
use Rattle.mj_config_walk.specs.Rest.{items_in, left}
use Rattle.mj_config_walk.specs.Arguments.{items}

-- the place of the first such byte, or the length
abbrev place : ℕ → List ℕ → ℕ
place sign s = position_or_len (λ b. b == sign) s

before_step : (sign b : ℕ) (s : List ℕ) (t : Bool) → (b == sign) ≡ t → before sign s ≡ take (place sign s) s → before sign (b ∷ s) ≡ take (place sign (b ∷ s)) (b ∷ s)
before_step sign b s true e ih = grind (arith, common_steps)
before_step sign b s false e ih = grind (arith, common_steps, ih, take_while-cons (λ x. not (x == sign)) b s)

before_at : (sign : ℕ) (s : List ℕ) → before sign s ≡ take (place sign s) s
before_at sign [] = refl
before_at sign (b ∷ s) = before_step sign b s (b == sign) refl (before_at sign s)

behind_step : (sign b : ℕ) (s : List ℕ) (t : Bool) → (b == sign) ≡ t → (place sign s < length s → behind_byte sign s ≡ Some (drop (place sign s + 1) s)) → place sign (b ∷ s) < length (b ∷ s) → behind_byte sign (b ∷ s) ≡ Some (drop (place sign (b ∷ s) + 1) (b ∷ s))
behind_step sign b s true e ih h = grind (arith, common_steps)
behind_step sign b s false e ih h = grind (arith, common_steps, ih)

behind_at : (sign : ℕ) (s : List ℕ) → place sign s < length s → behind_byte sign s ≡ Some (drop (place sign s + 1) s)
behind_at sign [] h = grind arith
behind_at sign (b ∷ s) h = behind_step sign b s (b == sign) refl (behind_at sign s) h

absent_step : (sign b : ℕ) (s : List ℕ) (t : Bool) → (b == sign) ≡ t → (length s ≤ place sign s → behind_byte sign s ≡ None) → length (b ∷ s) ≤ place sign (b ∷ s) → behind_byte sign (b ∷ s) ≡ None
absent_step sign b s true e ih h = grind (arith, common_steps)
absent_step sign b s false e ih h = grind (arith, common_steps, ih)

absent_at : (sign : ℕ) (s : List ℕ) → length s ≤ place sign s → behind_byte sign s ≡ None
absent_at sign [] h = refl
absent_at sign (b ∷ s) h = absent_step sign b s (b == sign) refl (absent_at sign s) h

-- where there is such a byte
pub before_found : (sign k : ℕ) (s : List ℕ) → position (λ b. b == sign) s ≡ Some k → before sign s ≡ take k s
before_found sign k s h =
    let at : position_or_len (λ b. b == sign) s ≡ k = grind (arith, nat_tests) in
    before_at sign s ∙ ap (λ n. take n s) at

pub behind_found : (sign k : ℕ) (s : List ℕ) → position (λ b. b == sign) s ≡ Some k → behind_byte sign s ≡ Some (take (length s - (k + 1)) (drop (k + 1) s))
behind_found sign k s h =
    let lt : position_or_len (λ b. b == sign) s < length s = grind (arith, nat_tests) in
    let at : position_or_len (λ b. b == sign) s ≡ k = grind (arith, nat_tests) in
    let all : take (length s - (k + 1)) (drop (k + 1) s) ≡ drop (k + 1) s = take_all _ _ (omega (arith, length-drop (k + 1) s)) in
    behind_at sign s lt ∙ ap (λ n. Some (drop (n + 1) s)) at ∙ ap (λ rest. Some rest) (sym all)

-- where there is none
pub before_none : (sign : ℕ) (s : List ℕ) → position (λ b. b == sign) s ≡ None → before sign s ≡ s
before_none sign s h =
    let ge : length s ≤ position_or_len (λ b. b == sign) s = grind (arith, nat_tests) in
    before_at sign s ∙ take_all _ _ ge

pub behind_none : (sign : ℕ) (s : List ℕ) → position (λ b. b == sign) s ≡ None → behind_byte sign s ≡ None
behind_none sign s h =
    let ge : length s ≤ position_or_len (λ b. b == sign) s = grind (arith, nat_tests) in
    absent_at sign s ge

-- ---- The items of a text

-- the parts of what stands behind such a byte
abbrev pub parts_in : ℕ → Option (List ℕ) → List (List ℕ)
parts_in sign None = []
parts_in sign (Some s) = slice_split (λ b. b == sign) s

parts_step : (sign b : ℕ) (s : List ℕ) (t : Bool) → (b == sign) ≡ t → slice_split (λ b. b == sign) s ≡ before sign s ∷ parts_in sign (behind_byte sign s) → slice_split (λ b. b == sign) (b ∷ s) ≡ before sign (b ∷ s) ∷ parts_in sign (behind_byte sign (b ∷ s))
parts_step sign b s true e ih = rw e
parts_step sign b s false e ih = rw (e, ih)

-- the first part, and the others
pub parts_are : (sign : ℕ) (s : List ℕ) → slice_split (λ b. b == sign) s ≡ before sign s ∷ parts_in sign (behind_byte sign s)
parts_are sign [] = refl
parts_are sign (b ∷ s) = parts_step sign b s (b == sign) refl (parts_are sign s)

trimmed_in : (rest : Option (List ℕ)) → map trimmed (parts_in 44 rest) ≡ items_in rest
trimmed_in None = refl
trimmed_in (Some s) = refl

-- the first item, and the others
pub items_are : (s : List ℕ) → items s ≡ trimmed (before 44 s) ∷ items_in (behind_byte 44 s)
items_are s = ap (λ parts. map trimmed parts) (parts_are 44 s) ∙ ap (λ rest. trimmed (before 44 s) ∷ rest) (trimmed_in (behind_byte 44 s))

shorter_step : (sign b : ℕ) (s : List ℕ) (t : Bool) → (b == sign) ≡ t → left (behind_byte sign s) ≤ length s → left (behind_byte sign (b ∷ s)) ≤ length (b ∷ s)
shorter_step sign b s true e ih = rw e (omega arith)
shorter_step sign b s false e ih = rw e (omega arith)

-- what stands behind a byte is shorter
pub behind_shorter : (sign : ℕ) (s : List ℕ) → left (behind_byte sign s) ≤ length s
behind_shorter sign [] = omega arith
behind_shorter sign (b ∷ s) = shorter_step sign b s (b == sign) refl (behind_shorter sign s)
