-- Fields by their names, and the changes of a head (RFC 5322, 2.2).
use Rattle.std.specs.Prelude.{◌≡◌, ℕ, Bool, not, ◌&&◌, ◌||◌, ◌==◌, if◌then◌else◌, List, [], ◌∷◌, Option, Ok}
use Rattle.std.specs.List.{list_all, find}
use Rattle.std.specs.Option.{option_map}
use Rattle.mj_terms.specs.Text.{trimmed, same_text}
use Rattle.mj_head.specs.Head.{RawField, head_of}

-- the field has this name, without regard to ASCII case
abbrev pub is_named : List ℕ → RawField → Bool
is_named name field = same_text field.0 name

-- a raw body on one line: without its CRLFs
abbrev pub without_crlf : List ℕ → List ℕ
without_crlf [] = []
without_crlf (a ∷ []) = a ∷ []
without_crlf (a ∷ b ∷ body) = if a == 13 && b == 10 then without_crlf body else a ∷ without_crlf (b ∷ body)

-- what the first field of a name says: its raw body on one line, without the blanks at both ends
abbrev pub unfolded : List ℕ → List RawField → Option (List ℕ)
unfolded name fields = option_map (λ field. trimmed (without_crlf field.1)) (find (is_named name) fields)

-- the value of a field that is added holds neither CR nor LF
abbrev pub is_field_value : List ℕ → Bool
is_field_value value = list_all (λ b. not (b == 13 || b == 10)) value

-- the fields, of which the first of this name has this raw body now, or one more of this name at the end
abbrev pub replaced_first : List ℕ → List ℕ → List RawField → List RawField
replaced_first name body [] = (name, body) ∷ []
replaced_first name body (field ∷ rest) = if is_named name field then (field.0, body) ∷ rest else field ∷ replaced_first name body rest

-- some text has this head
abbrev pub IsSomeHead : List RawField → Type 0
IsSomeHead fields = (text : List ℕ) × (place : ℕ) × (head_of text ≡ Ok (fields, place))
