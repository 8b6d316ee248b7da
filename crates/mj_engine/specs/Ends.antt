-- What a sink gained at one end of a call.
use Rattle.std.specs.Prelude.{◌≡◌, ℕ, List, [], ◌∷◌, take, Option}
use Rattle.mj_terms.specs.Causes.{Rose}
use Rattle.mj_io.specs.Grown.{grown}

-- the statuses of a run whose words are taken
abbrev pub ends_of_run : List ℕ
ends_of_run = 0 ∷ 3 ∷ 4 ∷ 5 ∷ 6 ∷ 12 ∷ []

-- a sink's bytes grew by a front of the text
abbrev pub GrowsByFront : Option (List ℕ) → Option (List ℕ) → List ℕ → Type 0
GrowsByFront old new text = (k : ℕ) × (new ≡ grown old (take k text))

-- a sink's bytes grew by a front of the line, and by all of it unless its count of faults rose
abbrev pub GrowsByLine : Option (List ℕ) → Option (List ℕ) → ℕ → ℕ → List ℕ → Type 0
GrowsByLine old new before now line = (k : ℕ) × (new ≡ grown old (take k line)) × ((Rose before now → ⊥) → take k line ≡ line)
