-- One of a list of different items, among those that pass a test.
use Rattle.std.proofs.Common.{◌≡◌, ◌∙◌, ℕ, zero, suc, ◌<◌, Bool, true, false, List, [], ◌∷◌, length, get_or, refl, sym, ap, subst, arith}
use Rattle.std.specs.Prelude.{if◌then◌else◌}
use Rattle.std.specs.List.{filter, AllByRecursion, IsDistinct}

swap_by : {X : Type 0} (s p : X → Bool) (x : X) (xs : List X) (b d : Bool) → s x ≡ b → p x ≡ d → filter s (filter p xs) ≡ filter p (filter s xs)
    → filter s (if d then x ∷ filter p xs else filter p xs) ≡ filter p (if b then x ∷ filter s xs else filter s xs)
swap_by s p x xs true true f e ih = rw (f, e) (ap (λ ys. x ∷ ys) ih)
swap_by s p x xs false true f e ih = rw f ih
swap_by s p x xs true false f e ih = rw e ih
swap_by s p x xs false false f e ih = ih

-- two tests may be asked in either order
pub filter_swap : {X : Type 0} (s p : X → Bool) (xs : List X) → filter s (filter p xs) ≡ filter p (filter s xs)
filter_swap s p [] = refl
filter_swap s p (x ∷ xs) = swap_by s p x xs (s x) (p x) refl refl (filter_swap s p xs)

module _ {X : Type 0} (s p : X → Bool) (r : X) (xs : List X) where
  pub kept : filter s xs ≡ r ∷ [] → p r ≡ true → filter s (filter p xs) ≡ r ∷ []
  kept h e = filter_swap s p xs ∙ ap (filter p) h ∙ rw e

  pub left_out : filter s xs ≡ r ∷ [] → p r ≡ false → filter s (filter p xs) ≡ []
  left_out h e = filter_swap s p xs ∙ ap (filter p) h ∙ rw e

-- who isn't there is in no part
pub still_gone : {X : Type 0} (s p : X → Bool) (xs : List X) → filter s xs ≡ [] → filter s (filter p xs) ≡ []
still_gone s p xs h = filter_swap s p xs ∙ ap (filter p) h

-- ---- One of a list of different ones

module _ {X : Type 0} (e : X → X → Bool) (same : (x : X) → e x x ≡ true) (turn : (x y : X) → e x y ≡ e y x) (r : X) where
  no_other : (xs : List X) → AllByRecursion (λ y. e r y ≡ false) xs → filter (e r) xs ≡ []
  no_other [] h = refl
  no_other (x ∷ xs) h = rw (h.0) (no_other xs h.1)

  apart : (q : X) (xs : List X) (k : ℕ) → AllByRecursion (λ y. e q y ≡ false) xs → k < length xs → get_or xs k r ≡ r → e q r ≡ false
  apart q [] k h within at = absurd (omega arith)
  apart q (x ∷ xs) zero h within at = ap (e q) (sym at) ∙ h.0
  apart q (x ∷ xs) (suc k) h within at = apart q xs k h.1 (omega arith) at

  pub alone_in : (xs : List X) (k : ℕ) → k < length xs → get_or xs k r ≡ r → IsDistinct e xs → filter (e r) xs ≡ r ∷ []
  unfolding IsDistinct
  alone_in [] k within at h = absurd (omega arith)
  alone_in (x ∷ xs) zero within at h =
      let here : e r x ≡ true = ap (e r) at ∙ same r in
      let others : filter (e r) xs ≡ [] = no_other xs (subst (λ q. AllByRecursion (λ y. e q y ≡ false) xs) at h.0) in
      rw here (λ i. at i ∷ others i)
  alone_in (x ∷ xs) (suc k) within at h =
      let not_here : e r x ≡ false = turn r x ∙ apart x xs k h.0 (omega arith) at in
      rw not_here (alone_in xs k (omega arith) at h.1)
