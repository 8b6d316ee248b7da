-- Numerals of decimal digits.
use Rattle.std.specs.Prelude.{ℕ, Bool, ◌&&◌, nat_le, if◌then◌else◌, List, length, Option, Some, None}
use Rattle.std.specs.List.{list_all}
use Rattle.std.specs.Char.{is_ascii_digit}
use Rattle.std.specs.Str.Parse.{digits_value}

-- a text of 1 to 9 decimal digits
abbrev pub is_numeral : List ℕ → Bool
is_numeral text = nat_le 1 (length text) && nat_le (length text) 9 && list_all is_ascii_digit text

-- the number that such a text spells, and nothing for any other text
abbrev pub numeral_of : List ℕ → Option ℕ
numeral_of text = if is_numeral text then Some (digits_value 10 text) else None
