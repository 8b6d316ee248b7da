-- A look-up among names, and a name put at the end.
use Rattle.std.proofs.Common.{◌≡◌, ℕ, Bool, false, ◌||◌, List, [], ◌∷◌, ◌++◌, map, refl, ap, ◌∙◌, if◌then◌else◌}
use Rattle.std.specs.List.{list_any}
use Rattle.std.specs.Str.{bytes_eq}

-- a test finds in the list of what is seen what it finds in the list
pub list_any-map : {X Y : Type 0} (p : Y → Bool) (see : X → Y) (xs : List X) → list_any (λ x. p (see x)) xs ≡ list_any p (map see xs)
list_any-map p see [] = refl
list_any-map p see (x ∷ xs) = ap (λ rest. p (see x) || rest) (list_any-map p see xs)

-- where the test finds none, the new one stands last
pub seen_last : {X Y : Type 0} (p : Y → Bool) (see : X → Y) (xs : List X) (x : X) → list_any p (map see xs) ≡ false
    → map see (if list_any (λ x. p (see x)) xs then xs else xs ++ x ∷ []) ≡ map see xs ++ see x ∷ []
seen_last p see xs x none = ap (λ found. map see (if found then xs else xs ++ x ∷ [])) (list_any-map p see xs ∙ none) ∙ last xs
  where
    last : (ys : List _) → map see (ys ++ x ∷ []) ≡ map see ys ++ see x ∷ []
    last [] = refl
    last (y ∷ ys) = ap (λ rest. see y ∷ rest) (last ys)

-- the same for a name that is compared byte for byte, among names that are seen so
pub name_last : {X : Type 0} (see : X → List ℕ) (xs new : List X) (x : X) (names : List (List ℕ)) (name : List ℕ)
    → names ≡ map see xs → see x ≡ name → list_any (bytes_eq name) names ≡ false
    → new ≡ (if list_any (λ y. bytes_eq (see x) (see y)) xs then xs else xs ++ x ∷ [])
    → map see new ≡ names ++ name ∷ []
name_last see xs new x names name seen named none is =
    rw (seen, is, ← named) (seen_last (bytes_eq (see x)) see xs x (rw (named, ← seen) none))
