-- The fields of a list from a place on.
use Rattle.std.proofs.Common.{◌≡◌, ℕ, zero, suc, refl, ◌+◌, ◌<◌, ◌≤◌, List, [], ◌∷◌, ◌++◌, length, get_or, take, drop, Option, Some, None, sym, ap, ◌∙◌, arith}
use Rattle.std.specs.Prelude.{MatchOption, slice_get}
use Rattle.std.proofs.lemmas.List.{length-drop, drop-drop, drop_all, drop_more, take_more}

pub drop_next : {X : Type 0} (xs ys zs : List X) (x : X) (i : ℕ) → ys ≡ drop i xs → ys ≡ x ∷ zs → zs ≡ drop (i + 1) xs
drop_next xs ys zs x i at e = ap (drop 1) (sym e ∙ at) ∙ drop-drop 1 i xs

pub drop_past : {X : Type 0} (xs ys : List X) (i n : ℕ) → ys ≡ drop i xs → ys ≡ [] → i ≤ n → drop n xs ≡ []
drop_past xs ys i n at e le = drop_all n xs (omega (arith, ap length (sym at ∙ e), length-drop i xs))

pub within_next : {X : Type 0} (xs ys zs : List X) (x : X) (i : ℕ) → ys ≡ drop i xs → ys ≡ x ∷ zs → i < length xs
within_next xs ys zs x i at e = omega (arith, ap length (sym at ∙ e), length-drop i xs)

pub get_next : {X : Type 0} (xs ys zs : List X) (x d : X) (i : ℕ) → ys ≡ drop i xs → ys ≡ x ∷ zs → get_or xs i d ≡ x
get_next xs ys zs x d i at e =
    let lists : get_or xs i d ∷ drop (i + 1) xs ≡ x ∷ zs = sym (drop_more xs i d (within_next xs ys zs x i at e)) ∙ sym at ∙ e in
    cc

pub take_next : {X : Type 0} (xs ys zs : List X) (x : X) (i : ℕ) → ys ≡ drop i xs → ys ≡ x ∷ zs → take (i + 1) xs ≡ take i xs ++ x ∷ []
take_next xs ys zs x i at e = take_more xs i x (within_next xs ys zs x i at e) ∙ ap (λ y. take i xs ++ y ∷ []) (get_next xs ys zs x x i at e)

get_none : {X : Type 0} (xs : List X) (i : ℕ) → drop i xs ≡ [] → slice_get xs i ≡ None
get_none [] i e = refl
get_none (x ∷ xs) zero e = cc
get_none (x ∷ xs) (suc i) e = get_none xs i e

get_some : {X : Type 0} (xs : List X) (i : ℕ) (y : X) (zs : List X) → drop i xs ≡ y ∷ zs → slice_get xs i ≡ Some y
get_some [] zero y zs e = cc
get_some [] (suc i) y zs e = cc
get_some (x ∷ xs) zero y zs e = cc
get_some (x ∷ xs) (suc i) y zs e = get_some xs i y zs e

-- the first of the fields from a place on is the field at this place
pub got : {X : Type 0} (xs ys zs : List X) (i : ℕ) (o : Option X) → ys ≡ drop i xs → MatchOption o ((ys ≡ []) × (zs ≡ [])) (λ x. ys ≡ x ∷ zs) → o ≡ slice_get xs i
got xs ys zs i None at h = sym (get_none xs i (sym at ∙ h.0))
got xs ys zs i (Some x) at h = sym (get_some xs i x zs (sym at ∙ h))
