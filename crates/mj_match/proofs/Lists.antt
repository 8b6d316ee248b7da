-- Lists that are made for each recipient.
use Rattle.std.proofs.Common.{◌≡◌, ℕ, zero, suc, ◌+◌, ◌<◌, Bool, false, List, [], ◌∷◌, ◌++◌, length, get_or, take, drop, set, map, replicate, Result, Ok, Err, IfOk, refl, ap, ◌∙◌, add-one, arith}
use Rattle.std.proofs.lemmas.List.{drop-set-lt}
use Rattle.std.specs.List.{AllByRecursion}
use Rattle.mj_match.specs.Composites.{one_more, with_truths}

-- an answer that is this list is that one, where the lists are equal
pub answers : {X E : Type 0} (answer : Result X E) {a b : X} → a ≡ b → IfOk answer (λ x. x ≡ a) → IfOk answer (λ x. x ≡ b)
answers (Ok x) e h = h ∙ e
answers (Err fault) e h = tt

pub map_same : {X Y : Type 0} (f g : X → Y) → ((x : X) → f x ≡ g x) → (xs : List X) → map f xs ≡ map g xs
map_same f g same [] = refl
map_same f g same (x ∷ xs) = rw (same x, map_same f g same xs)

pub map_twice : {X Y Z : Type 0} (g : Y → Z) (f : X → Y) (xs : List X) → map g (map f xs) ≡ map (λ x. g (f x)) xs
map_twice g f [] = refl
map_twice g f (x ∷ xs) = rw (map_twice g f xs)

-- one value for all
pub one_for_all : {X Y : Type 0} (f : X → Y) (y : Y) → ((x : X) → f x ≡ y) → (xs : List X) → replicate (length xs) y ≡ map f xs
one_for_all f y same [] = refl
one_for_all f y same (x ∷ xs) = rw (same x, one_for_all f y same xs)

pub all_of_map : {X Y : Type 0} (P : Y → Type 0) (f : X → Y) → ((x : X) → P (f x)) → (xs : List X) → AllByRecursion P (map f xs)
all_of_map P f each [] = tt
all_of_map P f each (x ∷ xs) = (each x, all_of_map P f each xs)

-- truths beside counts, each of the same recipient
pub beside : {X : Type 0} (f : X → ℕ) (g : X → Bool) (xs : List X) → with_truths (map f xs) (map g xs) ≡ map (λ x. one_more (f x) (g x)) xs
beside f g [] = refl
beside f g (x ∷ xs) = rw (beside f g xs)

-- ---- Counts that are made higher, one after another

higher_at : (counts : List ℕ) (truths : List Bool) (i count : ℕ) (truth : Bool) → i < length counts → i < length truths → get_or counts i 0 ≡ count → get_or truths i false ≡ truth
    → take (suc i) (set counts i (one_more count truth)) ++ with_truths (drop (suc i) (set counts i (one_more count truth))) (drop (suc i) truths)
    ≡ take i counts ++ with_truths (drop i counts) (drop i truths)
higher_at [] truths i count truth lt lt' e e' = absurd (omega arith)
higher_at (n ∷ counts) [] i count truth lt lt' e e' = absurd (omega arith)
higher_at (n ∷ counts) (b ∷ truths) zero count truth lt lt' e e' = rw (e, e')
higher_at (n ∷ counts) (b ∷ truths) (suc i) count truth lt lt' e e' = ap (λ rest. n ∷ rest) (higher_at counts truths i count truth (omega arith) (omega arith) e e')

pub higher : (counts : List ℕ) (truths : List Bool) (i count : ℕ) → i < length counts → i < length truths → get_or counts i 0 ≡ count
    → take (i + 1) (set counts i (one_more count (get_or truths i false))) ++ with_truths (drop (i + 1) (set counts i (one_more count (get_or truths i false)))) (drop (i + 1) truths)
    ≡ take i counts ++ with_truths (drop i counts) (drop i truths)
higher counts truths i count lt lt' e = rw add-one (higher_at counts truths i count (get_or truths i false) lt lt' e refl)

all_at : {X : Type 0} (P : X → Type 0) (xs : List X) (i : ℕ) (d : X) → i < length xs → AllByRecursion P (drop i xs) → P (get_or xs i d) × AllByRecursion P (drop (suc i) xs)
all_at P [] i d lt all = absurd (omega arith)
all_at P (x ∷ xs) zero d lt all = all
all_at P (x ∷ xs) (suc i) d lt all = all_at P xs i d (omega arith) all

-- what is left after another one
pub others : {X : Type 0} (P : X → Type 0) (xs : List X) (i : ℕ) (d x : X) → i < length xs → AllByRecursion P (drop i xs) → AllByRecursion P (drop (i + 1) (set xs i x))
others P xs i d x lt all = rw (drop-set-lt (i + 1) xs i x (omega arith), add-one) (all_at P xs i d lt all).1
