-- The forms of the two parts of a mail address: RFC 5322, 3.2.3, and RFC 5321, 4.1.2 and 4.5.3.1.
-- Quoted local parts, address literals and bytes over 127 have no place in them.
use Rattle.std.specs.Prelude.{ℕ, ◌≤◌, ◌-◌, List, Bool, IsTrue, ◌||◌, ◌&&◌, not, ◌==◌, nat_le, length, codes, slice_index}
use Rattle.std.specs.List.{list_all, list_any, slice_split}
use Rattle.std.specs.Char.{is_ascii_alphanumeric}

abbrev pub is_dot : ℕ → Bool
is_dot b = b == 46

abbrev pub is_hyphen : ℕ → Bool
is_hyphen b = b == 45

-- Of an atom's bytes (RFC 5322, 3.2.3, `atext`): a letter, a digit or one of these signs.
abbrev pub is_atom_byte : ℕ → Bool
is_atom_byte b = is_ascii_alphanumeric b || list_any (λ sign. sign == b) (codes "!#$%&'*+-/=?^_`{|}~")

-- One or more of them.
abbrev pub is_atom : List ℕ → Bool
is_atom text = not (length text == 0) && list_all is_atom_byte text

-- Atoms with a dot between each two (RFC 5322, 3.2.3, `dot-atom-text`): each piece, cut at the dots, is one.
abbrev pub is_dot_atom : List ℕ → Bool
is_dot_atom text = list_all is_atom (slice_split is_dot text)

-- A letter, a digit or a hyphen (RFC 5321, 4.1.2, `sub-domain`).
abbrev pub is_label_byte : ℕ → Bool
is_label_byte b = is_ascii_alphanumeric b || is_hyphen b

-- The text neither begins nor ends with a hyphen.
abbrev pub ends_without_hyphen : List ℕ → Bool
ends_without_hyphen text = not (is_hyphen (slice_index text 0)) && not (is_hyphen (slice_index text (length text - 1)))

-- One to 63 of them (RFC 1035, 2.3.4), without a hyphen at either end.
abbrev pub is_label : List ℕ → Bool
is_label text = not (length text == 0) && nat_le (length text) 63 && ends_without_hyphen text && list_all is_label_byte text

-- Labels with a dot between each two: each piece, cut at the dots, is one.
abbrev pub is_dotted_labels : List ℕ → Bool
is_dotted_labels text = list_all is_label (slice_split is_dot text)

-- A local part: atoms in at most 64 bytes (RFC 5321, 4.5.3.1.1).
pub record IsLocal (text : List ℕ) : Type 0 where
  pub short : length text ≤ 64
  pub form : IsTrue (is_dot_atom text)

-- A domain: labels in at most 255 bytes (RFC 5321, 4.5.3.1.2).
pub record IsDomain (text : List ℕ) : Type 0 where
  pub short : length text ≤ 255
  pub form : IsTrue (is_dotted_labels text)

-- The pair of a local part and a domain.
abbrev pub Mailbox : Type 0
Mailbox = List ℕ × List ℕ

-- An address.
pub record IsAddress (address : Mailbox) : Type 0 where
  pub local : IsLocal address.0
  pub domain : IsDomain address.1
