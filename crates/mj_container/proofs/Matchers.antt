-- Matchers: an induction over them, what a fold gives at each kind, and how many conditions they have.
use Rattle.std.proofs.Common.{◌≡◌, ◌∙◌, ℕ, ◌+◌, ◌<◌, ◌≤◌, Bool, true, false, List, [], ◌∷◌, length, map, Some, refl, sym, ap, subst, arith}
use Rattle.std.specs.Prelude.{nat_le, ◌&&◌, if◌then◌else◌}
use Rattle.std.specs.List.{AllByRecursion, flat_map, position_from, sum}
use Rattle.std.proofs.lemmas.Bool.{and_parts}
use Rattle.std.proofs.lemmas.Bool.Decides.{nat_tests}
use Rattle.std.proofs.lemmas.List.Concat.{length-flat_map}
use Rattle.std.proofs.lemmas.List.Sums.{sum_by-cons}
use Rattle.mj_plan.specs.declared.condition.Condition.{Condition}
use Rattle.mj_plan.specs.declared.matcher.MatchExpr.{MatchExpr}
use Rattle.mj_plan.specs.declared.matcher.MatchExpr.TheVariants.{One, And, Or, Not, Xor, rolls-One, rolls-And, rolls-Or, rolls-Not, rolls-Xor}
use Rattle.mj_plan.specs.declared.matcher.MatchExpr.TheOpen.{MatchExpr-F}
use Rattle.mj_plan.specs.declared.matcher.MatchExpr.TheViews.{roll-MatchExpr}
use Rattle.mj_plan.specs.declared.matcher.MatchExpr.TheFolds.{fold-MatchExpr, fold-roll-MatchExpr, ind-MatchExpr, map-MatchExpr}
use Rattle.mj_plan.specs.Sound.{conditions, conditions_at, depth, is_formed, is_matcher}
use Rattle.mj_mail.specs.declared.mail.Mail.{Mail}
use Rattle.mj_container.specs.Matching.{conditions_of, fails, first_failed, conditions_at as listed_at}

-- ---- An induction

-- what holds of each condition, and of each composite whose children it holds of
pub record Induction (P : MatchExpr → Type 0) : Type 0 where
  pub one : (condition : Condition) → P (One condition)
  pub and : (children : List MatchExpr) → AllByRecursion P children → P (And children)
  pub or : (children : List MatchExpr) → AllByRecursion P children → P (Or children)
  pub not : (children : List MatchExpr) → AllByRecursion P children → P (Not children)
  pub xor : (children : List MatchExpr) → AllByRecursion P children → P (Xor children)

module _ (P : MatchExpr → Type 0) (i : Induction P) where
  each : (kids : List ((x : MatchExpr) × P x)) → AllByRecursion P (map (λ kid. kid.0) kids)
  each [] = tt
  each (kid ∷ kids) = (kid.1, each kids)

  layer : (y : MatchExpr-F ((x : MatchExpr) × P x)) → P (roll-MatchExpr (map-MatchExpr ((x : MatchExpr) × P x) MatchExpr (λ kid. kid.0) y))
  layer (MatchExpr-F.One condition) = subst P (sym (rolls-One condition)) (i.one condition)
  layer (MatchExpr-F.And kids) = subst P (sym (rolls-And (map (λ kid. kid.0) kids))) (i.and (map (λ kid. kid.0) kids) (each kids))
  layer (MatchExpr-F.Or kids) = subst P (sym (rolls-Or (map (λ kid. kid.0) kids))) (i.or (map (λ kid. kid.0) kids) (each kids))
  layer (MatchExpr-F.Not kids) = subst P (sym (rolls-Not (map (λ kid. kid.0) kids))) (i.not (map (λ kid. kid.0) kids) (each kids))
  layer (MatchExpr-F.Xor kids) = subst P (sym (rolls-Xor (map (λ kid. kid.0) kids))) (i.xor (map (λ kid. kid.0) kids) (each kids))

  -- it holds of each matcher
  pub by_induction : (x : MatchExpr) → P x
  by_induction x = ind-MatchExpr P (λ x' y e. subst (λ z. P (roll-MatchExpr z)) e (layer y)) x

-- ---- What a fold gives at each kind

module _ {A : Type 0} (f : MatchExpr-F A → A) where
  pub fold-One : (condition : Condition) → fold-MatchExpr A f (One condition) ≡ f (MatchExpr-F.One condition)
  fold-One condition = ap (fold-MatchExpr A f) (sym (rolls-One condition)) ∙ fold-roll-MatchExpr A f (MatchExpr-F.One condition)

  pub fold-And : (xs : List MatchExpr) → fold-MatchExpr A f (And xs) ≡ f (MatchExpr-F.And (map (fold-MatchExpr A f) xs))
  fold-And xs = ap (fold-MatchExpr A f) (sym (rolls-And xs)) ∙ fold-roll-MatchExpr A f (MatchExpr-F.And xs)

  pub fold-Or : (xs : List MatchExpr) → fold-MatchExpr A f (Or xs) ≡ f (MatchExpr-F.Or (map (fold-MatchExpr A f) xs))
  fold-Or xs = ap (fold-MatchExpr A f) (sym (rolls-Or xs)) ∙ fold-roll-MatchExpr A f (MatchExpr-F.Or xs)

  pub fold-Not : (xs : List MatchExpr) → fold-MatchExpr A f (Not xs) ≡ f (MatchExpr-F.Not (map (fold-MatchExpr A f) xs))
  fold-Not xs = ap (fold-MatchExpr A f) (sym (rolls-Not xs)) ∙ fold-roll-MatchExpr A f (MatchExpr-F.Not xs)

  pub fold-Xor : (xs : List MatchExpr) → fold-MatchExpr A f (Xor xs) ≡ f (MatchExpr-F.Xor (map (fold-MatchExpr A f) xs))
  fold-Xor xs = ap (fold-MatchExpr A f) (sym (rolls-Xor xs)) ∙ fold-roll-MatchExpr A f (MatchExpr-F.Xor xs)

-- ---- The number of conditions

abbrev IsCounted : MatchExpr → Type 0
IsCounted x = length (conditions_of x) ≡ conditions x

-- the conditions of several matchers
abbrev listed : List MatchExpr → List Condition
listed xs = flat_map (λ child. child) (map conditions_of xs)

listed_counted : (xs : List MatchExpr) → AllByRecursion IsCounted xs → length (listed xs) ≡ sum (map conditions xs)
listed_counted [] all = refl
listed_counted (x ∷ xs) all =
    omega (
      arith,
      length-flat_map (λ (child : List Condition). child) (map conditions_of (x ∷ xs)),
      length-flat_map (λ (child : List Condition). child) (map conditions_of xs),
      sum_by-cons (λ (child : List Condition). length child) (conditions_of x) (map conditions_of xs),
      sum_by-cons (λ n. n) (conditions x) (map conditions xs),
      all.0,
      listed_counted xs all.1,
    )

counting : Induction IsCounted
counting = record {
  one = λ c. ap length (fold-One listed_at c) ∙ sym (fold-One conditions_at c);
  and = λ xs all. ap length (fold-And listed_at xs) ∙ listed_counted xs all ∙ sym (fold-And conditions_at xs);
  or = λ xs all. ap length (fold-Or listed_at xs) ∙ listed_counted xs all ∙ sym (fold-Or conditions_at xs);
  not = λ xs all. ap length (fold-Not listed_at xs) ∙ listed_counted xs all ∙ sym (fold-Not conditions_at xs);
  xor = λ xs all. ap length (fold-Xor listed_at xs) ∙ listed_counted xs all ∙ sym (fold-Xor conditions_at xs);
}

-- as many conditions as there are said to be
pub counted : (x : MatchExpr) → length (conditions_of x) ≡ conditions x
counted x = by_induction IsCounted counting x

-- at most 100 of them
pub few_conditions : (x : MatchExpr) → is_matcher x ≡ true → length (conditions_of x) ≤ 100
few_conditions x h =
    let few = (and_parts (is_formed x) (nat_le (conditions x) 100) (and_parts (is_formed x && nat_le (conditions x) 100) (nat_le (depth x) 16) h).0).1 in
    let count = counted x in
    grind (arith, nat_tests, few, count)

-- ---- The first that fails

within_by : (test : Condition → Bool) (start k : ℕ) (c : Condition) (cs : List Condition) (b : Bool) → (if b then Some start else position_from test (start + 1) cs) ≡ Some k
    → (position_from test (start + 1) cs ≡ Some k → k < start + 1 + length cs) → k < start + length (c ∷ cs)
within_by test start k c cs true e later = let same : start ≡ k = cc in omega arith
within_by test start k c cs false e later = let rest = later e in omega arith

-- a place that is found is one of the list
within : (test : Condition → Bool) (start k : ℕ) (cs : List Condition) → position_from test start cs ≡ Some k → k < start + length cs
within test start k [] e = cc
within test start k (c ∷ cs) e = within_by test start k c cs (test c) e (λ f. within test (start + 1) k cs f)

-- the number of a condition that fails is at most 100
pub few_failed : (mail : Mail) (x : MatchExpr) (k : ℕ) → is_matcher x ≡ true → first_failed mail x ≡ Some k → k ≤ 100
few_failed mail x k h e = let few = few_conditions x h in let at = within (fails mail) 1 k (conditions_of x) e in omega arith
