-- Items put together by a key that they have in common.
use Rattle.std.specs.Prelude.{Bool, if◌then◌else◌, List, [], ◌∷◌, ◌++◌, map, filter}
use Rattle.std.specs.List.{list_any}

-- the keys with this one at the end, unless an equal one is there
abbrev pub with_key : {K : Type 0} → (K → K → Bool) → List K → K → List K
with_key eq keys key = if list_any (eq key) keys then keys else keys ++ key ∷ []

-- with each of these in turn
abbrev pub with_keys : {K : Type 0} → (K → K → Bool) → List K → List K → List K
with_keys eq keys [] = keys
with_keys eq keys (key ∷ more) = with_keys eq (with_key eq keys key) more

-- of equal keys the first
abbrev pub different : {K : Type 0} → (K → K → Bool) → List K → List K
different eq keys = with_keys eq [] keys

-- the items of this key
abbrev pub having : {K X : Type 0} → (K → K → Bool) → K → List (K × X) → List X
having eq key pairs = map (λ pair. pair.1) (filter (λ pair. eq key pair.0) pairs)

-- each different key, in the order of its first mention, with its items, in order
abbrev pub grouped : {K X : Type 0} → (K → K → Bool) → List (K × X) → List (K × List X)
grouped eq pairs = map (λ key. (key, having eq key pairs)) (different eq (map (λ pair. pair.0) pairs))
