-- The attributes of a mail: named texts, in the byte order of their names.
use Rattle.std.specs.Prelude.{ℕ, ◌≤◌, List, not, filter, Option, length}
use Rattle.std.specs.declared.cmp.Ordering.{Ordering}
use Rattle.std.specs.BTreeMap.{insert_entry}
use Rattle.std.specs.Cmp.Lexicographic.{slice_cmp}
use Rattle.std.specs.List.Sorted.{IsStrictlySortedBy}
use Rattle.std.specs.Map.{keys_of, lookup}
use Rattle.std.specs.Ordering.{nat_cmp}
use Rattle.std.specs.Str.{bytes_eq}
use Rattle.mj_mail.specs.declared.attributes.TheConstants.{MAX_ATTRIBUTES}

-- the order of names: byte by byte, and a name before what it begins
abbrev pub byte_order : List ℕ → List ℕ → Ordering
byte_order = slice_cmp nat_cmp

-- the value of the attribute of this name, if there is one
abbrev pub attribute_value : List ℕ → List (List ℕ × List ℕ) → Option (List ℕ)
attribute_value name attributes = lookup (λ held. bytes_eq held name) attributes

-- with this value at the name: in the place of the one that stands there, else at the name's place in the order
abbrev pub with_attribute : List ℕ → List ℕ → List (List ℕ × List ℕ) → List (List ℕ × List ℕ)
with_attribute name value attributes = insert_entry byte_order attributes name value

-- the attributes of other names
abbrev pub without_attribute : List ℕ → List (List ℕ × List ℕ) → List (List ℕ × List ℕ)
without_attribute name attributes = filter (λ attribute. not (bytes_eq attribute.0 name)) attributes

-- A list of attributes: the names ascend, and there are not too many.
pub record AreAttributes (attributes : List (List ℕ × List ℕ)) : Type 0 where
  pub ascending : IsStrictlySortedBy byte_order (keys_of attributes)
  pub few : length attributes ≤ MAX_ATTRIBUTES
