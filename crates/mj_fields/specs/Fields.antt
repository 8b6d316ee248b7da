-- Fields of records, one behind the other: numbers of a fixed size, their lowest byte first, and strings of
-- bytes with their length before them.
use Rattle.std.specs.Prelude.{ℕ, ◌+◌, nat_le, List, ◌++◌, length, take, drop, if◌then◌else◌, Option, Some, None}
use Rattle.std.specs.Int.{Width, w32, byte_len, to_le_bytes, from_le_bytes}
use Rattle.std.specs.Option.{option_and_then}

-- the bytes that stand at a place, so many of them, and the place behind them
abbrev pub bytes_at : ℕ → List ℕ → ℕ → Option (List ℕ × ℕ)
bytes_at count bytes at = if nat_le (at + count) (length bytes) then Some (take count (drop at bytes), at + count) else None

-- the number that stands at a place, and the place behind it
abbrev pub number_at : Width → List ℕ → ℕ → Option (ℕ × ℕ)
number_at w bytes at = option_and_then (λ found. Some (from_le_bytes w found.0, found.1)) (bytes_at (byte_len w) bytes at)

-- a string of bytes behind its length
abbrev pub with_length : List ℕ → List ℕ
with_length text = to_le_bytes w32 (length text) ++ text

-- the string that stands at a place behind its length, and the place behind it
abbrev pub string_at : List ℕ → ℕ → Option (List ℕ × ℕ)
string_at bytes at = option_and_then (λ found. bytes_at found.0 bytes found.1) (number_at w32 bytes at)
