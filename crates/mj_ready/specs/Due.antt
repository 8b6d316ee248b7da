-- What a queue of due moments holds: distinct pairs of a moment and a key, the one that is due first at the front.
use Rattle.std.specs.Prelude.{◌≡◌, ℕ, Bool, true, ◌&&◌, ◌||◌, ◌==◌, nat_lt, if◌then◌else◌, List, [], ◌∷◌}
use Rattle.std.specs.List.{AllByRecursion}

-- what a queue holds: its pairs, in order, and how many more it has room for
pub record Queue : Type 0 where
  pub pairs : List (ℕ × ℕ)
  pub spare : ℕ

-- a comes before b: it is due earlier, or at the same moment with the lesser key
abbrev pub is_before : ℕ × ℕ → ℕ × ℕ → Bool
is_before a b = nat_lt a.0 b.0 || (a.0 == b.0 && nat_lt a.1 b.1)

-- x put into a list, behind all that come before it
abbrev pub inserted : {X : Type 0} → (X → X → Bool) → X → List X → List X
inserted before x [] = x ∷ []
inserted before x (y ∷ ys) = if before y x then y ∷ inserted before x ys else x ∷ y ∷ ys

-- each comes before all that follow it
abbrev pub IsAscending : {X : Type 0} → (X → X → Bool) → List X → Type 0
IsAscending before [] = Unit {0}
IsAscending before (x ∷ xs) = AllByRecursion (λ y. before x y ≡ true) xs × IsAscending before xs
