-- How deep a binary heap is.
use Rattle.std.specs.Prelude.{ℕ, ◌+◌, ◌^◌, ◌<◌, ◌≤◌}

-- k is the greatest number with 2 ^ k <= n
pub record IsDepth (n k : ℕ) : Type 0 where
  pub reached : 2 ^ k ≤ n
  pub greatest : n < 2 ^ (k + 1)
