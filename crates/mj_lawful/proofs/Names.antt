-- When two names are the same, and that a child has the name of no other mail.
use Rattle.std.proofs.Common.{◌≡◌, ℕ, Bool, true, false, nat_eq, ◌==◌, List, [], ◌∷◌, ◌++◌, refl, ap, Decides, ◌≢◌}
use Rattle.std.specs.Cmp.Lexicographic.{pointwise, bytes_decides}
use Rattle.std.proofs.lemmas.Bool.Decides.{Decides-eqb, Decides-and, Decides-like}
use Rattle.mj_mail.specs.declared.name.Name.{Name}
use Rattle.mj_mail.specs.Name.{child_name, first_name}
use Rattle.mj_lawful.specs.Places.{same_name}

pub decides_name : (a b : Name) → Decides (same_name a b) (a ≡ b)
decides_name a b = Decides-like (same_name a b)
    (λ (p : (a.number ≡ b.number) × (a.path ≡ b.path)). λ i. record { number = p.0 i; path = p.1 i })
    (λ e. (ap (λ (n : Name). n.number) e, ap (λ (n : Name). n.path) e))
    (Decides-and (a.number == b.number) (pointwise nat_eq a.path b.path) (Decides-eqb a.number b.number) (bytes_decides a.path b.path))

pub same_is : (a b : Name) → same_name a b ≡ true → a ≡ b
same_is a b = (decides_name a b).0

pub same_itself : (a : Name) → same_name a a ≡ true
same_itself a = (decides_name a a).1 refl

last_is : (xs ys : List ℕ) (j k : ℕ) → xs ++ j ∷ [] ≡ ys ++ k ∷ [] → (xs ≡ ys) × (j ≡ k)
last_is [] [] j k e = (refl, cc)
last_is [] (y ∷ ys) j k e = absurd (nothing_after ys k (cc))
  where
    nothing_after : (ys : List ℕ) (k : ℕ) → [] ≡ ys ++ k ∷ [] → ⊥
    nothing_after [] k e = cc
    nothing_after (y ∷ ys) k e = cc
last_is (x ∷ xs) [] j k e = absurd (nothing_after xs j (cc))
  where
    nothing_after : (ys : List ℕ) (k : ℕ) → ys ++ k ∷ [] ≡ [] → ⊥
    nothing_after [] k e = cc
    nothing_after (y ∷ ys) k e = cc
last_is (x ∷ xs) (y ∷ ys) j k e = let h = last_is xs ys j k (cc) in (let p : x ≡ y = cc in λ i. p i ∷ h.0 i, h.1)

-- a child's name tells the parent's
pub parent_is : (a b : Name) (j k : ℕ) → child_name a j ≡ child_name b k → a ≡ b
parent_is a b j k e =
    let h = last_is a.path b.path j k (ap (λ (n : Name). n.path) e) in
    λ i. record { number = ap (λ (n : Name). n.number) e i; path = h.0 i }

pub number_is : (a b : Name) (j k : ℕ) → child_name a j ≡ child_name b k → j ≡ k
number_is a b j k e = (last_is a.path b.path j k (ap (λ (n : Name). n.path) e)).1

nothing_after : (ys : List ℕ) (k : ℕ) → ys ++ k ∷ [] ≡ [] → ⊥
nothing_after [] k e = cc
nothing_after (y ∷ ys) k e = cc

-- a child is no first mail
pub child_is_not_first : (a : Name) (j n : ℕ) → child_name a j ≢ first_name n
child_is_not_first a j n e = nothing_after a.path j (ap (λ (n : Name). n.path) e)

pub differs : (a b : Name) → a ≢ b → same_name a b ≡ false
differs a b n = by (same_name a b) refl
  where
    by : (t : Bool) → same_name a b ≡ t → same_name a b ≡ false
    by true e = absurd (n (same_is a b e))
    by false e = e

longer : (xs : List ℕ) (j : ℕ) → xs ≢ xs ++ j ∷ []
longer [] j e = cc
longer (x ∷ xs) j e = longer xs j (cc)

-- no name is that of its child
pub name_is_not_child : (a : Name) (j : ℕ) → a ≢ child_name a j
name_is_not_child a j e = longer a.path j (ap (λ (n : Name). n.path) e)
