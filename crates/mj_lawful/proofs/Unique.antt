-- A list in the order of places is the only one with its members, and sorting any list of these gives it.
use Rattle.std.proofs.Common.{◌≡◌, Bool, true, false, ◌⊎◌, inl, inr, List, [], ◌∷◌, refl, sym, ap, ◌∙◌, subst, true≢false, if◌then◌else◌, IsPermutation, Less, Equal, Greater, Ordering, is_eq, is_lt}
use Rattle.std.specs.List.{AllByRecursion, IsDistinct}
use Rattle.std.specs.Ordering.{ordering_reverse}
use Rattle.std.proofs.lemmas.List.Elements.{All-from_recursion, recursion_from_All}
use Rattle.std.proofs.lemmas.List.Sorted.{All-permutation, IsPermutation-sym, IsPermutation-refl, IsPermutation-trans, IsPermutation-cons, IsPermutation-middle}
use Rattle.std.proofs.lemmas.Map.Keys.{IsDistinct-IsPermutation}
use Rattle.mj_mail.specs.Meaning.{Placed}
use Rattle.mj_lawful.specs.Places.{place_cmp, IsBelow, AreInOrder, put_in, in_order}
use Rattle.mj_lawful.proofs.Lists.{all_weaker}
use Rattle.mj_lawful.proofs.Order.{place_total}

abbrev pub Among : List Placed → Placed → Type 0
Among [] x = ⊥
Among (y ∷ ys) x = (y ≡ x) ⊎ Among ys x

all_among : (xs : List Placed) → AllByRecursion (Among xs) xs
all_among [] = tt
all_among (x ∷ xs) = (inl refl, all_weaker (Among xs) (Among (x ∷ xs)) (λ z h. inr h) xs (all_among xs))

all_both : {X : Type 0} (P Q : X → Type 0) (xs : List X) → AllByRecursion P xs → AllByRecursion Q xs → AllByRecursion (λ x. P x × Q x) xs
all_both P Q [] h g = tt
all_both P Q (x ∷ xs) h g = ((h.0, g.0), all_both P Q xs h.1 g.1)

all_at : (P : Placed → Type 0) (xs : List Placed) (x : Placed) → AllByRecursion P xs → Among xs x → P x
all_at P [] x h g = absurd g
all_at P (y ∷ ys) x h (inl e) = subst P e h.0
all_at P (y ∷ ys) x h (inr g) = all_at P ys x h.1 g

not_both : (x y : Placed) → IsBelow x y → IsBelow y x → ⊥
not_both x y h g = let e : Less ≡ Greater = sym h ∙ (place_total.antisymm x y ∙ ap ordering_reverse g) in cc

not_itself : (x : Placed) → IsBelow x x → ⊥
not_itself x h = not_both x x h h

heads : (x y : Placed) (xs ys : List Placed) → AllByRecursion (IsBelow x) xs → AllByRecursion (IsBelow y) ys → Among (y ∷ ys) x → Among (x ∷ xs) y → x ≡ y
heads x y xs ys h g (inl e) b = sym e
heads x y xs ys h g (inr a) (inl e) = e
heads x y xs ys h g (inr a) (inr b) = absurd (not_both x y (all_at (IsBelow x) xs y h b) (all_at (IsBelow y) ys x g a))

-- what is above x is not x
in_tail : (x y : Placed) (ys : List Placed) → x ≡ y → (z : Placed) → IsBelow x z × Among (y ∷ ys) z → Among ys z
in_tail x y ys e z (b, inl f) = absurd (not_itself z (subst (λ w. IsBelow w z) (e ∙ f) b))
in_tail x y ys e z (b, inr a) = a

same_members : (xs ys : List Placed) → AreInOrder xs → AreInOrder ys → AllByRecursion (Among ys) xs → AllByRecursion (Among xs) ys → xs ≡ ys
same_members [] [] h g a b = refl
same_members [] (y ∷ ys) h g a b = absurd b.0
same_members (x ∷ xs) [] h g a b = absurd a.0
same_members (x ∷ xs) (y ∷ ys) h g a b =
    let e = heads x y xs ys h.0 g.0 a.0 b.0 in
    let rest = same_members xs ys h.1 g.1
    (all_weaker (λ z. IsBelow x z × Among (y ∷ ys) z) (Among ys) (in_tail x y ys e) xs (all_both (IsBelow x) (Among (y ∷ ys)) xs h.0 a.1))
    (all_weaker (λ z. IsBelow y z × Among (x ∷ xs) z) (Among xs) (in_tail y x xs (sym e)) ys (all_both (IsBelow y) (Among (x ∷ xs)) ys g.0 b.1)) in
    λ i. e i ∷ rest i

among_permutation : (xs ys : List Placed) → IsPermutation xs ys → AllByRecursion (Among xs) ys
among_permutation xs ys h = recursion_from_All (Among xs) ys (All-permutation (Among xs) xs ys h (All-from_recursion (Among xs) xs (all_among xs)))

-- two lists in order with the same members are the same
pub in_order_unique : (xs ys : List Placed) → AreInOrder xs → AreInOrder ys → IsPermutation xs ys → xs ≡ ys
in_order_unique xs ys h g p = same_members xs ys h g (among_permutation ys xs (IsPermutation-sym xs ys p)) (among_permutation xs ys p)

-- ---- Sorting

all_put : (P : Placed → Type 0) (x : Placed) (ys : List Placed) → P x → AllByRecursion P ys → AllByRecursion P (put_in x ys)
all_put P x [] h g = (h, tt)
all_put P x (y ∷ ys) h g = by (is_lt (place_cmp x y)) (all_put P x ys h g.1)
  where
    by : (b : Bool) → AllByRecursion P (put_in x ys) → AllByRecursion P (if b then x ∷ y ∷ ys else y ∷ put_in x ys)
    by true r = (h, (g.0, g.1))
    by false r = (g.0, r)

put_permutation : (x : Placed) (ys : List Placed) → IsPermutation (x ∷ ys) (put_in x ys)
put_permutation x [] = IsPermutation-refl (x ∷ [])
put_permutation x (y ∷ ys) = by (is_lt (place_cmp x y)) (put_permutation x ys)
  where
    by : (b : Bool) → IsPermutation (x ∷ ys) (put_in x ys) → IsPermutation (x ∷ y ∷ ys) (if b then x ∷ y ∷ ys else y ∷ put_in x ys)
    by true r = IsPermutation-refl (x ∷ y ∷ ys)
    by false r = IsPermutation-trans (x ∷ y ∷ ys) (y ∷ x ∷ ys) (y ∷ put_in x ys)
        (IsPermutation-sym (y ∷ x ∷ ys) (x ∷ y ∷ ys) (IsPermutation-middle (y ∷ []) x ys)) (IsPermutation-cons y (x ∷ ys) (put_in x ys) r)

pub sorts : (xs : List Placed) → IsPermutation xs (in_order xs)
sorts [] = IsPermutation-refl []
sorts (x ∷ xs) =
    IsPermutation-trans (x ∷ xs) (x ∷ in_order xs) (put_in x (in_order xs)) (IsPermutation-cons x xs (in_order xs) (sorts xs)) (put_permutation x (in_order xs))

abbrev pub same_place : Placed → Placed → Bool
same_place x y = is_eq (place_cmp x y)

put_ordered : (x : Placed) (ys : List Placed) → AreInOrder ys → AllByRecursion (λ y. same_place x y ≡ false) ys → AreInOrder (put_in x ys)
put_ordered x [] h d = (tt, tt)
put_ordered x (y ∷ ys) h d = by (place_cmp x y) refl (put_ordered x ys h.1 d.1)
  where
    by : (o : Ordering) → place_cmp x y ≡ o → AreInOrder (put_in x ys) → AreInOrder (if is_lt o then x ∷ y ∷ ys else y ∷ put_in x ys)
    by Less e r = ((e, all_weaker (IsBelow y) (IsBelow x) (λ z b. place_total.trans x y z e b) ys h.0), h)
    by Equal e r = absurd (true≢false (ap is_eq (sym e) ∙ d.0))
    by Greater e r = (all_put (IsBelow y) x ys (place_total.antisymm y x ∙ ap ordering_reverse e) h.0, r)

distinct_in_order : (xs : List Placed) → AreInOrder xs → IsDistinct same_place xs
unfolding IsDistinct
distinct_in_order [] h = tt
distinct_in_order (x ∷ xs) h = (all_weaker (IsBelow x) (λ y. same_place x y ≡ false) (λ y b. ap is_eq b) xs h.0, distinct_in_order xs h.1)

all_sorted : (P : Placed → Type 0) (xs : List Placed) → AllByRecursion P xs → AllByRecursion P (in_order xs)
all_sorted P [] h = tt
all_sorted P (x ∷ xs) h = all_put P x (in_order xs) h.0 (all_sorted P xs h.1)

sorted_ordered : (xs : List Placed) → IsDistinct same_place xs → AreInOrder (in_order xs)
unfolding IsDistinct
sorted_ordered [] h = tt
sorted_ordered (x ∷ xs) h = put_ordered x (in_order xs) (sorted_ordered xs h.1) (all_sorted (λ y. same_place x y ≡ false) xs h.0)

flips : (x y : Placed) → same_place x y ≡ same_place y x
flips x y = ap is_eq (place_total.antisymm x y) ∙ by (place_cmp y x)
  where
    by : (o : Ordering) → is_eq (ordering_reverse o) ≡ is_eq o
    by Less = refl
    by Equal = refl
    by Greater = refl

-- a list that has the members of one in order is that one, sorted
pub sorted_is : (xs ys : List Placed) → IsPermutation xs ys → AreInOrder ys → in_order xs ≡ ys
sorted_is xs ys p h =
    in_order_unique (in_order xs) ys
    (sorted_ordered xs (IsDistinct-IsPermutation same_place flips ys xs (IsPermutation-sym xs ys p) (distinct_in_order ys h))) h
    (IsPermutation-trans (in_order xs) xs ys (IsPermutation-sym xs (in_order xs) (sorts xs)) p)
