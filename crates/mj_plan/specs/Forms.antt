-- The forms of the texts of a configuration.
use Rattle.std.specs.Prelude.{ℕ, nat_le, ◌==◌, Bool, not, ◌&&◌, ◌||◌, List, length}
use Rattle.std.specs.List.{list_all}
use Rattle.std.specs.Char.{is_ascii_alphanumeric, is_ascii_digit}

abbrev pub is_printable : ℕ → Bool
is_printable b = nat_le 32 b && nat_le b 126

abbrev pub is_visible : ℕ → Bool
is_visible b = nat_le 33 b && nat_le b 126

-- a text of so many bytes, and one with each byte of a kind
abbrev pub has_length : ℕ → ℕ → List ℕ → Bool
has_length least most text = nat_le least (length text) && nat_le (length text) most

abbrev pub has_form : (ℕ → Bool) → ℕ → ℕ → List ℕ → Bool
has_form kind least most text = has_length least most text && list_all kind text

-- the name of a processor: 1 to 64 letters, digits, hyphens, underscores and dots
abbrev pub is_name_byte : ℕ → Bool
is_name_byte b = is_ascii_alphanumeric b || b == 45 || b == 95 || b == 46

abbrev pub is_processor_name : List ℕ → Bool
is_processor_name text = has_form is_name_byte 1 64 text

-- the value of a header field, a prefix of a Subject, or a message
abbrev pub is_line : List ℕ → Bool
is_line text = has_form is_printable 1 512 text

-- the name of a mail attribute, without comma and semicolon, which stand between such names
abbrev pub is_attribute_byte : ℕ → Bool
is_attribute_byte b = is_visible b && not (b == 44) && not (b == 59)

abbrev pub is_attribute_name : List ℕ → Bool
is_attribute_name text = has_form is_attribute_byte 1 255 text

-- the value of a mail attribute
abbrev pub is_attribute_value : List ℕ → Bool
is_attribute_value text = has_form is_printable 0 4_096 text

-- the name of a repository
abbrev pub is_repository : List ℕ → Bool
is_repository text = has_form is_visible 1 255 text

-- a reply code (RFC 5321, 4.2)
abbrev pub is_reply_code : List ℕ → Bool
is_reply_code text = has_form is_ascii_digit 3 3 text
