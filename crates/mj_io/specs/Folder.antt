-- Files as a list of paths with their bytes, no path twice: what stands in a folder, and what at a path.
use Rattle.std.specs.Prelude.{ℕ, List, [], ◌∷◌, Option, Some, None, Bool, true, ◌&&◌, ◌==◌, if◌then◌else◌, insert}
use Rattle.std.specs.List.{list_all, list_any, filter_map, position_or_len}
use Rattle.std.specs.Option.{option_and_then}
use Rattle.std.specs.Ordering.{nat_cmp, is_le}
use Rattle.std.specs.Cmp.Lexicographic.{slice_cmp}
use Rattle.std.specs.Str.{bytes_eq}
use Rattle.mj_terms.specs.Text.{behind}

-- the bytes of the file at a path
abbrev pub file_at : List ℕ → List (List ℕ × List ℕ) → Option (List ℕ)
file_at path [] = None
file_at path (file ∷ files) = if bytes_eq file.0 path then Some file.1 else file_at path files

-- a name has no slash
abbrev pub plain_name : List ℕ → Option (List ℕ)
plain_name name = if list_any (λ b. b == 47) name then None else Some name

-- the name under which a path stands in the folder itself: the path is the folder, a slash and that name
abbrev pub name_in : List ℕ → List ℕ → Option (List ℕ)
name_in folder path = option_and_then plain_name (option_and_then (behind (47 ∷ [])) (behind folder path))

-- the first name is at most the second, byte by byte
abbrev pub is_at_most : List ℕ → List ℕ → Bool
is_at_most name other = is_le (slice_cmp nat_cmp name other)

-- each name is at most every name behind it
abbrev pub ascend : List (List ℕ) → Bool
ascend [] = true
ascend (name ∷ names) = list_all (is_at_most name) names && ascend names

-- the place of a name among names in ascending byte order: before the first that isn't less
abbrev pub place_of : List ℕ → List (List ℕ) → ℕ
place_of name names = position_or_len (is_at_most name) names

-- the names in ascending byte order
abbrev pub in_byte_order : List (List ℕ) → List (List ℕ)
in_byte_order [] = []
in_byte_order (name ∷ names) = insert (in_byte_order names) (place_of name (in_byte_order names)) name

-- the names of the files in the folder itself, and these in ascending byte order
abbrev pub found_in : List ℕ → List (List ℕ × List ℕ) → List (List ℕ)
found_in folder files = filter_map (λ file. name_in folder file.0) files

abbrev pub names_in : List ℕ → List (List ℕ × List ℕ) → List (List ℕ)
names_in folder files = in_byte_order (found_in folder files)
