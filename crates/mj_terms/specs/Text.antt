-- Bytes as lines of mail have them: blanks, and ASCII text without regard to case.
use Rattle.std.specs.Prelude.{ℕ, List, [], ◌∷◌, Bool, ◌||◌, ◌==◌, if◌then◌else◌, Option, Some, None, length, take, drop}
use Rattle.std.specs.List.{list_all}
use Rattle.std.specs.Str.{bytes_eq, str_eq_ignore_ascii_case}

-- a space or a tab (RFC 5322, 2.2.2)
abbrev pub is_blank : ℕ → Bool
is_blank b = b == 32 || b == 9

-- the text without the blanks at its front, at its end, and at both ends
abbrev pub trim_front : List ℕ → List ℕ
trim_front [] = []
trim_front (b ∷ text) = if is_blank b then trim_front text else b ∷ text

abbrev pub trim_back : List ℕ → List ℕ
trim_back [] = []
trim_back (b ∷ text) = if list_all is_blank (b ∷ text) then [] else b ∷ trim_back text

abbrev pub trimmed : List ℕ → List ℕ
trimmed text = trim_back (trim_front text)

-- the two texts are the same without regard to ASCII case
abbrev pub same_text : List ℕ → List ℕ → Bool
same_text a b = str_eq_ignore_ascii_case a b

-- the text up to the first such byte, or all of it
abbrev pub before : ℕ → List ℕ → List ℕ
before byte [] = []
before byte (b ∷ text) = if b == byte then [] else b ∷ before byte text

-- what stands behind the first such byte, or nothing
abbrev pub after : ℕ → List ℕ → List ℕ
after byte [] = []
after byte (b ∷ text) = if b == byte then text else after byte text

-- the same, if there is such a byte
abbrev pub behind_byte : ℕ → List ℕ → Option (List ℕ)
behind_byte byte [] = None
behind_byte byte (b ∷ text) = if b == byte then Some text else behind_byte byte text

-- what stands behind this front, if the text begins with it
abbrev pub behind : List ℕ → List ℕ → Option (List ℕ)
behind front text = if bytes_eq (take (length front) text) front then Some (drop (length front) text) else None
