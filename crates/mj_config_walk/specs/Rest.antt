-- What is left of a text while the items between its commas, or its words, are read.
use Rattle.std.specs.Prelude.{ℕ, ◌+◌, List, [], length, Option, Some, None}
use Rattle.mj_config_walk.specs.Arguments.{items, words}

-- the items of what stands behind a comma, if there is one
abbrev pub items_in : Option (List ℕ) → List (List ℕ)
items_in None = []
items_in (Some s) = items s

-- how much is left to read: the bytes of a text and its end
abbrev pub left : Option (List ℕ) → ℕ
left None = 0
left (Some s) = length s + 1

-- the words of what stands behind a space, if there is one
abbrev pub words_in : Option (List ℕ) → List (List ℕ)
words_in None = []
words_in (Some s) = words s
