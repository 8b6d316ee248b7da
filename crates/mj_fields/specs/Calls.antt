-- The calls on an object in memory, of which those whose numbers are named fail.
use Rattle.std.specs.Prelude.{ℕ, ◌+◌, ◌-◌, ◌^◌, min, List, Bool, ◌==◌}
use Rattle.std.specs.List.{list_any}

-- one more, up to the last value of a count
abbrev pub next : ℕ → ℕ
next count = min (count + 1) (2 ^ 64 - 1)

-- the call after so many is to fail
abbrev pub is_named : List ℕ → ℕ → Bool
is_named failing made = list_any (λ n. n == next made) failing
