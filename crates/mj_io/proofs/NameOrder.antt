-- The names in a folder ascend, and are those that the files have there.
use Rattle.std.proofs.Common.{◌≡◌, ℕ, suc, ◌&&◌, Bool, true, false, List, [], ◌∷◌, take, drop, insert, refl, sym, ap, subst, ◌∙◌, arith}
use Rattle.std.specs.List.{list_all}
use Rattle.std.specs.List.Sorted.{IsPermutation}
use Rattle.std.specs.Ordering.{nat_cmp, is_le, ordering_reverse}
use Rattle.std.specs.declared.cmp.Ordering.{Ordering}
use Rattle.std.specs.declared.cmp.Ordering.TheVariants.{Less, Equal, Greater}
use Rattle.std.specs.Cmp.Lexicographic.{slice_cmp}
use Rattle.std.proofs.lemmas.Bool.{and_parts}
use Rattle.std.proofs.lemmas.Cmp.{nat_list_cmp_total}
use Rattle.std.proofs.lemmas.List.{take-append-drop}
use Rattle.std.proofs.lemmas.List.Folds.{list_all-append}
use Rattle.std.proofs.lemmas.List.Sorted.{IsPermutation-refl, IsPermutation-cons, IsPermutation-insert, IsPermutation-trans}
use Rattle.mj_io.specs.Folder.{ascend, found_in, in_byte_order, is_at_most, names_in, place_of}

abbrev order : List ℕ → List ℕ → Ordering
order = slice_cmp nat_cmp

reversed : (x y : List ℕ) (a : Ordering) → order y x ≡ a → order x y ≡ ordering_reverse a
reversed x y a e = nat_list_cmp_total.antisymm x y ∙ ap ordering_reverse e

flipped_by : (x y : List ℕ) (a : Ordering) → order x y ≡ a → is_le a ≡ false → is_at_most y x ≡ true
flipped_by x y Less e h = absurd cc
flipped_by x y Equal e h = absurd cc
flipped_by x y Greater e h = ap is_le (reversed y x Greater e)

-- of two names one is at most the other
flipped : (x y : List ℕ) → is_at_most x y ≡ false → is_at_most y x ≡ true
flipped x y h = flipped_by x y (order x y) refl h

chained_by : (x y z : List ℕ) (a b : Ordering) → order x y ≡ a → order y z ≡ b → is_le a ≡ true → is_le b ≡ true → is_at_most x z ≡ true
chained_by x y z Less Less e f h k = ap is_le (nat_list_cmp_total.trans x y z e f)
chained_by x y z Equal b e f h k = ap is_le (nat_list_cmp_total.congr x y z e ∙ f) ∙ k
chained_by x y z Less Equal e f h k =
    ap is_le (reversed x z Greater (nat_list_cmp_total.congr z y x (reversed z y Equal f) ∙ reversed y x Less e))
chained_by x y z Greater b e f h k = absurd cc
chained_by x y z Less Greater e f h k = absurd cc

chained : (x y z : List ℕ) → is_at_most x y ≡ true → is_at_most y z ≡ true → is_at_most x z ≡ true
chained x y z h k = chained_by x y z (order x y) (order y z) refl refl h k

-- what is at most a name is at most all that the name is at most
below_all : (x y : List ℕ) (names : List (List ℕ)) → is_at_most x y ≡ true → list_all (is_at_most y) names ≡ true → list_all (is_at_most x) names ≡ true
below_all x y [] h all = refl
below_all x y (name ∷ names) h all =
    let (first, rest) = and_parts (is_at_most y name) (list_all (is_at_most y) names) all in
    rw (chained x y name h first, below_all x y names h rest)

all_inserted : (p : List ℕ → Bool) (xs : List (List ℕ)) (i : ℕ) (x : List ℕ) → list_all p xs ≡ true → p x ≡ true → list_all p (insert xs i x) ≡ true
all_inserted p xs i x all one =
    let parts : (list_all p (take i xs) && list_all p (drop i xs)) ≡ true = sym (list_all-append p (take i xs) (drop i xs)) ∙ ap (list_all p) (take-append-drop i xs) ∙ all in
    let (front, back) = and_parts (list_all p (take i xs)) (list_all p (drop i xs)) parts in
    rw (list_all-append p (take i xs) (x ∷ drop i xs), front, one, back)

-- a name that is at most the first stands in front, and another behind it
place_first : (name other : List ℕ) (names : List (List ℕ)) → is_at_most name other ≡ true → place_of name (other ∷ names) ≡ 0
place_first name other names e = rw e

place_behind : (name other : List ℕ) (names : List (List ℕ)) → is_at_most name other ≡ false → place_of name (other ∷ names) ≡ suc (place_of name names)
place_behind name other names e = rw e (omega arith)

behind_first : (name other : List ℕ) (names : List (List ℕ)) → is_at_most name other ≡ false
    → insert (other ∷ names) (place_of name (other ∷ names)) name ≡ other ∷ insert names (place_of name names) name
behind_first name other names e = ap (λ k. insert (other ∷ names) k name) (place_behind name other names e)

inserted_by : (name other : List ℕ) (names : List (List ℕ)) (b : Bool) → is_at_most name other ≡ b
    → list_all (is_at_most other) names ≡ true → ascend names ≡ true → ascend (insert names (place_of name names) name) ≡ true
    → ascend (insert (other ∷ names) (place_of name (other ∷ names)) name) ≡ true
inserted_by name other names true e all rest more =
    rw (place_first name other names e)
    (rw (below_all name other names e all) (rw e (rw (all, rest))))
inserted_by name other names false e all rest more =
    rw (behind_first name other names e)
    (rw (all_inserted (is_at_most other) names (place_of name names) name all (flipped name other e)) more)

inserted : (name : List ℕ) (names : List (List ℕ)) → ascend names ≡ true → ascend (insert names (place_of name names) name) ≡ true
inserted name [] h = refl
inserted name (other ∷ names) h =
    let (all, rest) = and_parts (list_all (is_at_most other) names) (ascend names) h in
    inserted_by name other names (is_at_most name other) refl all rest (inserted name names rest)

pub in_order : (names : List (List ℕ)) → ascend (in_byte_order names) ≡ true
in_order [] = refl
in_order (name ∷ names) = inserted name (in_byte_order names) (in_order names)

same_members : (names : List (List ℕ)) → IsPermutation names (in_byte_order names)
same_members [] = IsPermutation-refl []
same_members (name ∷ names) =
    IsPermutation-trans (name ∷ names) (name ∷ in_byte_order names) (in_byte_order (name ∷ names))
    (IsPermutation-cons name names (in_byte_order names) (same_members names))
    (IsPermutation-insert (in_byte_order names) (place_of name (in_byte_order names)) name)

pub names_ascend : (folder : List ℕ) (files : List (List ℕ × List ℕ)) → ascend (names_in folder files) ≡ true
names_ascend folder files = in_order (found_in folder files)

pub names_found : (folder told : List ℕ) (files held : List (List ℕ × List ℕ)) (names : List (List ℕ)) → names ≡ names_in told held → told ≡ folder → held ≡ files
    → IsPermutation (found_in folder files) names
names_found folder told files held names e f g =
    rw e (subst (λ folder. IsPermutation (found_in folder files) (names_in told held)) f
    (subst (λ files. IsPermutation (found_in told files) (names_in told held)) g (same_members (found_in told held))))
