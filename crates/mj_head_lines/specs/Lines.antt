-- Lines of a head (RFC 5322, 2.2): names of fields, and lines that continue a field.
use Rattle.std.specs.Prelude.{ℕ, nat_le, ◌==◌, Bool, false, not, ◌&&◌, List, [], ◌∷◌, length}
use Rattle.std.specs.List.{list_all}
use Rattle.mj_terms.specs.Text.{before, is_blank}

-- what stands before the first colon
abbrev pub before_colon : List ℕ → List ℕ
before_colon line = before 58 line

-- a name is one or more bytes 33 to 126 other than the colon
abbrev pub is_name_byte : ℕ → Bool
is_name_byte b = nat_le 33 b && nat_le b 126 && not (b == 58)

abbrev pub is_field_name : List ℕ → Bool
is_field_name name = not (length name == 0) && list_all is_name_byte name

-- a line that begins with a space or a tab continues the field before it (2.2.3)
abbrev pub is_continuation : List ℕ → Bool
is_continuation [] = false
is_continuation (b ∷ line) = is_blank b
