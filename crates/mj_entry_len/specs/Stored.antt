-- A count of bytes as a number of 64 bits.
use Rattle.std.specs.Prelude.{ℕ, ◌-◌, ◌^◌, min}

-- the count, or the last value where it is greater
abbrev pub stored : ℕ → ℕ
stored count = min count (2 ^ 64 - 1)
