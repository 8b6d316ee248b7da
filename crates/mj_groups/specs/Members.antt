-- Lists that grow by one item after the other.
use Rattle.std.specs.Prelude.{ℕ, zero, suc, List, [], ◌∷◌, ◌++◌}

-- with this item at the end of the list of this number, counted from 0, or in a list of its own behind all where none has it
abbrev pub with_item : {X : Type 0} → ℕ → X → List (List X) → List (List X)
with_item index item [] = (item ∷ []) ∷ []
with_item zero item (list ∷ lists) = (list ++ item ∷ []) ∷ lists
with_item (suc index) item (list ∷ lists) = list ∷ with_item index item lists
