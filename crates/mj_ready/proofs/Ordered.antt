-- Lists that are put in order by a test: what an insertion, an exchange and the end of a list do to the order.
use Rattle.std.proofs.Common.{◌≡◌, ℕ, ◌+◌, ◌<◌, Bool, true, false, cond, List, [], ◌∷◌, ◌++◌, length, get_or, set, zero, suc, refl, sym, ap, ◌∙◌, arith, get_or-set_same, get_or-set_other, length-set}
use Rattle.std.specs.List.{AllByRecursion, Contains, swap}
use Rattle.std.proofs.lemmas.Bool.{cases_eq}
use Rattle.std.proofs.lemmas.Bool.Decides.{nat_tests}
use Rattle.mj_ready.specs.Due.{is_before, inserted, IsAscending}
use Rattle.mj_ready.specs.Heap.{in_order}

-- a test that puts things in order
pub record IsOrder {X : Type 0} (before : X → X → Bool) : Type 0 where
  pub one_way : (a b : X) → before a b ≡ true → before b a ≡ false
  pub through : (a b c : X) → before a b ≡ false → before b c ≡ false → before a c ≡ false
  pub whole : (a b : X) → before a b ≡ false → before b a ≡ false → a ≡ b

module _ {X : Type 0} (before : X → X → Bool) (o : IsOrder before) where
  swaps_two : (a b : X) (s : List X) (ab ba : Bool) → before a b ≡ ab → before b a ≡ ba
      → cond ba (b ∷ a ∷ s) (a ∷ b ∷ s) ≡ cond ab (a ∷ b ∷ s) (b ∷ a ∷ s)
  swaps_two a b s true true e f = let g = o.one_way a b e in cc
  swaps_two a b s true false e f = refl
  swaps_two a b s false true e f = refl
  swaps_two a b s false false e f = let g = o.whole a b e f in cc

  -- what two tests of three say of the third
  first_before : (a b y : X) → before y a ≡ true → before y b ≡ false → before b a ≡ true
  first_before a b y e f = by_case (before b a) refl
    where
      by_case : (ba : Bool) → before b a ≡ ba → before b a ≡ true
      by_case true h = h
      by_case false h = let g = o.through y b a f h in cc

  -- the order in which two are put in doesn't matter
  pub inserted-inserted : (a b : X) (s : List X)
      → inserted before a (inserted before b s) ≡ inserted before b (inserted before a s)
  inserted-inserted a b [] = swaps_two a b [] (before a b) (before b a) refl refl
  inserted-inserted a b (y ∷ s) =
      by_cases (before y a) (before y b) refl refl (inserted-inserted a b s)
    where
      by_cases : (ya yb : Bool) → before y a ≡ ya → before y b ≡ yb
          → inserted before a (inserted before b s) ≡ inserted before b (inserted before a s)
          → inserted before a (inserted before b (y ∷ s)) ≡ inserted before b (inserted before a (y ∷ s))
      by_cases true true e f same = simp (e, f) (ap (λ r. y ∷ r) same)
      by_cases true false e f _ = let g = first_before a b y e f in simp (e, f, g)
      by_cases false true e f _ = let g = first_before b a y f e in simp (e, f, g)
      by_cases false false e f _ = simp (e, f) (swaps_two a b (y ∷ s) (before a b) (before b a) refl refl)

  -- at the end of a list
  pub in_order-push : (xs : List X) (x : X) → in_order before (xs ++ x ∷ []) ≡ inserted before x (in_order before xs)
  in_order-push [] x = refl
  in_order-push (y ∷ xs) x = rw (in_order-push xs x) (inserted-inserted y x (in_order before xs))

  -- what is put in can be told from what is there
  pub irreflexive : (a : X) → before a a ≡ false
  irreflexive a = by_case (before a a) refl
    where
      by_case : (b : Bool) → before a a ≡ b → before a a ≡ false
      by_case true e = o.one_way a a e
      by_case false e = e

  length-inserted : (x : X) (s : List X) → length (inserted before x s) ≡ length s + 1
  length-inserted x [] = refl
  length-inserted x (y ∷ s) = by_case (before y x) refl (length-inserted x s)
    where
      by_case : (b : Bool) → before y x ≡ b → length (inserted before x s) ≡ length s + 1
          → length (inserted before x (y ∷ s)) ≡ length (y ∷ s) + 1
      by_case true e shorter = simp e (omega arith)
      by_case false e _ = simp e (omega arith)

  pub inserted-injective : (x : X) (s t : List X) → inserted before x s ≡ inserted before x t → s ≡ t
  inserted-injective x [] [] e = refl
  inserted-injective x [] (z ∷ t) e =
      absurd (omega (arith, ap length e, length-inserted x [], length-inserted x (z ∷ t)))
  inserted-injective x (y ∷ s) [] e =
      absurd (omega (arith, ap length e, length-inserted x [], length-inserted x (y ∷ s)))
  inserted-injective x (y ∷ s) (z ∷ t) e = by_cases (before y x) (before z x) refl refl (inserted-injective x s t)
    where
      by_cases : (yx zx : Bool) → before y x ≡ yx → before z x ≡ zx
          → (inserted before x s ≡ inserted before x t → s ≡ t) → y ∷ s ≡ z ∷ t
      by_cases true true f g shorter =
          let h = simp (f, g) at e in let i : s ≡ t = shorter cc in cc
      by_cases true false f g _ = let h = simp (f, g) at e in let i = irreflexive x in cc
      by_cases false true f g _ = let h = simp (f, g) at e in let i = irreflexive x in cc
      by_cases false false f g _ = let h = simp (f, g) at e in cc

  -- one written over another
  in_order-set : (xs : List X) (i : ℕ) (v d : X) → i < length xs
      → inserted before (get_or xs i d) (in_order before (set xs i v)) ≡ inserted before v (in_order before xs)
  in_order-set [] i v d lt = absurd (omega arith)
  in_order-set (x ∷ xs) zero v d lt = inserted-inserted x v (in_order before xs)
  in_order-set (x ∷ xs) (suc i) v d lt =
      inserted-inserted (get_or xs i d) x (in_order before (set xs i v))
      ∙ ap (inserted before x) (in_order-set xs i v d (omega arith))
      ∙ inserted-inserted x v (in_order before xs)

  -- two exchanged
  in_order-exchange : (xs : List X) (i j : ℕ) (d : X) → i < length xs → j < length xs
      → in_order before (set (set xs i (get_or xs j d)) j (get_or xs i d)) ≡ in_order before xs
  in_order-exchange xs i j d i_in j_in =
      let a = get_or xs i d in
      let b = get_or xs j d in
      let second : get_or (set xs i b) j d ≡ b = grind (arith, get_or-set_same, get_or-set_other, cases_eq j i) in
      let wide : j < length (set xs i b) = simp length-set j_in in
      inserted-injective b _ _
      (ap (λ x. inserted before x (in_order before (set (set xs i b) j a))) (sym second)
      ∙ in_order-set (set xs i b) j a d wide
      ∙ in_order-set xs i b d i_in)

  pub in_order-swap : (xs : List X) (i j : ℕ) → i < length xs → j < length xs
      → in_order before (swap xs i j) ≡ in_order before xs
  in_order-swap [] i j i_in j_in = refl
  in_order-swap (x ∷ xs) i j i_in j_in = in_order-exchange (x ∷ xs) i j x i_in j_in

  -- what holds of each
  module _ (P : X → Type 0) where
    pub all-inserted : (x : X) (s : List X) → P x → AllByRecursion P s → AllByRecursion P (inserted before x s)
    all-inserted x [] p all = (p, tt)
    all-inserted x (y ∷ s) p all = by_case (before y x) refl (all-inserted x s p all.1)
      where
        by_case : (b : Bool) → before y x ≡ b → AllByRecursion P (inserted before x s)
            → AllByRecursion P (inserted before x (y ∷ s))
        by_case true e rest = simp e (all.0, rest)
        by_case false e _ = simp e (p, all)

    pub all-in_order : (xs : List X) → AllByRecursion P xs → AllByRecursion P (in_order before xs)
    all-in_order [] all = tt
    all-in_order (x ∷ xs) all = all-inserted x (in_order before xs) all.0 (all-in_order xs all.1)

  -- what no other comes before goes to the front
  pub inserted-least : (x : X) (s : List X) → AllByRecursion (λ y. before y x ≡ false) s → inserted before x s ≡ x ∷ s
  inserted-least x [] all = refl
  inserted-least x (y ∷ s) all = simp all.0

  -- what is absent can be put in
  across : (a b c : X) → before a b ≡ true → before b c ≡ true → before a c ≡ true
  across a b c e f = by_case (before a c) refl
    where
      by_case : (ac : Bool) → before a c ≡ ac → before a c ≡ true
      by_case true h = h
      by_case false h = let g = o.through a c b h (o.one_way b c f) in cc

  past : (x y : X) (s : List X) → before x y ≡ true → AllByRecursion (λ z. before y z ≡ true) s
      → AllByRecursion (λ z. before x z ≡ true) s
  past x y [] e all = tt
  past x y (z ∷ s) e all = (across x y z e all.0, past x y s e all.1)

  pub ascending-inserted : (x : X) (s : List X) → ¬ Contains s x → IsAscending before s
      → IsAscending before (inserted before x s)
  ascending-inserted x [] none up = (tt, tt)
  ascending-inserted x (y ∷ s) none up =
      by_case (before y x) (before x y) refl refl
      (ascending-inserted x s (λ (k, lt, is). none (suc k, omega arith, is)) up.1)
    where
      by_case : (yx xy : Bool) → before y x ≡ yx → before x y ≡ xy → IsAscending before (inserted before x s)
          → IsAscending before (inserted before x (y ∷ s))
      by_case true _ e f rest = simp e (all-inserted (λ z. before y z ≡ true) x s e up.0, rest)
      by_case false true e f _ = simp e ((f, past x y s f up.0), up)
      by_case false false e f _ = absurd (none (0, omega arith, o.whole y x e f))

same_pair : (a b : ℕ × ℕ) → a.0 ≡ b.0 → a.1 ≡ b.1 → a ≡ b
same_pair (due, key) (due', key') e f = cc

-- the order of pairs
pub pairs_in_order : IsOrder is_before
pairs_in_order = record {
  one_way = λ a b e. grind (arith, nat_tests);
  through = λ a b c e f. grind (arith, nat_tests);
  whole = λ a b e f.
      let due : a.0 ≡ b.0 = grind (arith, nat_tests) in
      let key : a.1 ≡ b.1 = grind (arith, nat_tests) in
      same_pair a b due key;
}

-- what a test of pairs answered, of the rows that they were read from
pub tested : (a b row other : ℕ × ℕ) (answer : Bool) → row ≡ a → other ≡ b → answer ≡ is_before a b → answer ≡ true
    → is_before row other ≡ true
tested a b row other answer e f says holds = rw (e, f) (sym says ∙ holds)

module _ {X : Type 0} (before : X → X → Bool) (o : IsOrder before) where
  pub length-in_order : (xs : List X) → length (in_order before xs) ≡ length xs
  length-in_order [] = refl
  length-in_order (x ∷ xs) =
      omega (arith, length-inserted before o x (in_order before xs), length-in_order xs)
