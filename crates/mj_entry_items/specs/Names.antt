-- The name of an attribute behind those that stand before it.
use Rattle.std.specs.Prelude.{ℕ, nat_lt, ◌&&◌, Bool, List, length}
use Rattle.std.specs.List.{list_all}
use Rattle.std.specs.Ordering.{is_lt}
use Rattle.mj_mail.specs.Attributes.{byte_order}

-- the attribute's name is before this one
abbrev pub is_before : List ℕ → List ℕ × List ℕ → Bool
is_before name held = is_lt (byte_order held.0 name)

abbrev pub are_before : List ℕ → List (List ℕ × List ℕ) → Bool
are_before name attributes = list_all (is_before name) attributes

-- there are fewer attributes than so many, and each name is before this one
abbrev pub is_next_name : ℕ → List ℕ → List (List ℕ × List ℕ) → Bool
is_next_name most name attributes = nat_lt (length attributes) most && are_before name attributes
