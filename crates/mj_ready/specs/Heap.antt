-- A binary heap in a list: below the row at p are those at 2 p + 1 and 2 p + 2.
use Rattle.std.specs.Prelude.{◌≡◌, ◌≢◌, ℕ, ◌+◌, ◌*◌, ◌<◌, ◌≤◌, Bool, false, List, [], ◌∷◌, length, slice_index_or}
use Rattle.mj_ready.specs.Due.{is_before, inserted}

-- the rows of a store, and how many more it has room for
pub record Store : Type 0 where
  pub rows : List (ℕ × ℕ)
  pub spare : ℕ

-- the row at k
abbrev pub row_at : List (ℕ × ℕ) → ℕ → ℕ × ℕ
row_at rows k = slice_index_or rows k (0, 0)

-- the rows, in order
abbrev pub in_order : {X : Type 0} → (X → X → Bool) → List X → List X
in_order before [] = []
in_order before (x ∷ xs) = inserted before x (in_order before xs)

-- the row at k doesn't come before the one at p
abbrev pub Follows : List (ℕ × ℕ) → ℕ → ℕ → Type 0
Follows rows k p = is_before (row_at rows k) (row_at rows p) ≡ false

-- no row comes before the one above it
pub record IsHeap (rows : List (ℕ × ℕ)) : Type 0 where
  pub follows : (p k : ℕ) → 2 * p + 1 ≤ k → k ≤ 2 * p + 2 → k < length rows → Follows rows k p

-- what is below the row at a place follows what is above it
pub record IsJoined (rows : List (ℕ × ℕ)) (at : ℕ) : Type 0 where
  pub follows : (p k : ℕ) → 2 * p + 1 ≤ at → at ≤ 2 * p + 2 → 2 * at + 1 ≤ k → k ≤ 2 * at + 2 → k < length rows
      → Follows rows k p

-- a heap, but that the row at a place may come before the one above it
pub record RisesFrom (rows : List (ℕ × ℕ)) (at : ℕ) : Type 0 where
  pub others : (p k : ℕ) → 2 * p + 1 ≤ k → k ≤ 2 * p + 2 → k < length rows → k ≢ at → Follows rows k p
  pub joined : IsJoined rows at

-- a heap, but that those below the row at a place may come before it
pub record SinksFrom (rows : List (ℕ × ℕ)) (at : ℕ) : Type 0 where
  pub others : (p k : ℕ) → 2 * p + 1 ≤ k → k ≤ 2 * p + 2 → k < length rows → p ≢ at → Follows rows k p
  pub joined : IsJoined rows at
