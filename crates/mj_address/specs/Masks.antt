-- The two sides of a list under a mask, which says of each place whether it is taken.
use Rattle.std.specs.Prelude.{List, [], ◌∷◌, Bool, true, false}

-- the items at whose place the mask is true
abbrev pub taken : {X : Type 0} → List Bool → List X → List X
taken [] xs = []
taken (b ∷ mask) [] = []
taken (true ∷ mask) (x ∷ xs) = x ∷ taken mask xs
taken (false ∷ mask) (x ∷ xs) = taken mask xs

-- the items at whose place the mask is false
abbrev pub left : {X : Type 0} → List Bool → List X → List X
left [] xs = []
left (b ∷ mask) [] = []
left (true ∷ mask) (x ∷ xs) = left mask xs
left (false ∷ mask) (x ∷ xs) = x ∷ left mask xs
