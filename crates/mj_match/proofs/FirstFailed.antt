-- The first condition that fails, over matchers that stand one after another.
use Rattle.std.proofs.Common.{◌≡◌, ℕ, ◌+◌, ◌<◌, Bool, true, false, List, [], ◌∷◌, ◌++◌, length, get_or, drop, map, Option, Some, None, Result, Ok, Err, refl, sym, ap, subst, ◌∙◌, arith}
use Rattle.std.specs.List.{flat_map, position_from}
use Rattle.std.proofs.lemmas.List.{drop_more, length-append}
use Rattle.mj_mail.specs.declared.mail.Mail.{Mail}
use Rattle.mj_plan.specs.declared.condition.Condition.{Condition}
use Rattle.mj_plan.specs.declared.matcher.MatchExpr.{MatchExpr}
use Rattle.mj_plan.specs.declared.matcher.MatchExpr.TheVariants.{And, Or, Not, Xor}
use Rattle.mj_container.specs.Matching.{conditions_at, conditions_of, fails}
use Rattle.mj_match.specs.declared.match_error.MatchError.{MatchError}
use Rattle.mj_match.specs.declared.match_error.MatchError.TheVariants.{Failed}
use Rattle.mj_terms.specs.Answers.{IsFault}
use Rattle.mj_match.specs.Evaluated.{counted, told, unless_failed}
use Rattle.mj_container.proofs.Matchers.{fold-And, fold-Or, fold-Not, fold-Xor}

-- ---- The conditions of a composite

of_children : (xs : List MatchExpr) → flat_map (λ child. child) (map conditions_of xs) ≡ flat_map conditions_of xs
of_children [] = refl
of_children (x ∷ xs) = ap (λ rest. conditions_of x ++ rest) (of_children xs)

module _ (matcher : MatchExpr) (xs ys : List MatchExpr) where
  pub and_conditions : matcher ≡ And xs → ys ≡ xs → conditions_of matcher ≡ flat_map conditions_of ys
  and_conditions is same = ap conditions_of is ∙ fold-And conditions_at xs ∙ of_children xs ∙ sym (ap (λ (children : List MatchExpr). flat_map conditions_of children) same)

  pub or_conditions : matcher ≡ Or xs → ys ≡ xs → conditions_of matcher ≡ flat_map conditions_of ys
  or_conditions is same = ap conditions_of is ∙ fold-Or conditions_at xs ∙ of_children xs ∙ sym (ap (λ (children : List MatchExpr). flat_map conditions_of children) same)

  pub not_conditions : matcher ≡ Not xs → ys ≡ xs → conditions_of matcher ≡ flat_map conditions_of ys
  not_conditions is same = ap conditions_of is ∙ fold-Not conditions_at xs ∙ of_children xs ∙ sym (ap (λ (children : List MatchExpr). flat_map conditions_of children) same)

  pub xor_conditions : matcher ≡ Xor xs → ys ≡ xs → conditions_of matcher ≡ flat_map conditions_of ys
  xor_conditions is same = ap conditions_of is ∙ fold-Xor conditions_at xs ∙ of_children xs ∙ sym (ap (λ (children : List MatchExpr). flat_map conditions_of children) same)

-- the conditions that are left, from the first matcher that is left
pub left : (xs : List MatchExpr) (i : ℕ) (x : MatchExpr) → i < length xs → x ≡ get_or xs i x → flat_map conditions_of (drop i xs) ≡ conditions_of x ++ flat_map conditions_of (drop (i + 1) xs)
left xs i x lt is =
    ap (λ (ys : List MatchExpr). flat_map conditions_of ys) (drop_more xs i x lt)
    ∙ ap (λ (y : MatchExpr). conditions_of y ++ flat_map conditions_of (drop (i + 1) xs)) (sym is)

-- ---- One after another

counted_failed : (mail : Mail) (before : ℕ) (x : Condition) (xs : List Condition) → fails mail x ≡ true → counted mail before (x ∷ xs) ≡ Err (Failed (before + 1))
counted_failed mail before x xs h = rw h

counted_passed : (mail : Mail) (before : ℕ) (x : Condition) (xs : List Condition) → fails mail x ≡ false → counted mail before (x ∷ xs) ≡ counted mail (before + 1) xs
counted_passed mail before x xs h =
    rw h (ap (λ n. unless_failed (position_from (fails mail) (before + 1 + 1) xs) n) (omega arith))

-- where no condition of a list fails, they are counted
counted_ok_by : (mail : Mail) (before n : ℕ) (x : Condition) (xs : List Condition) (b : Bool) → fails mail x ≡ b
    → (counted mail (before + 1) xs ≡ Ok n → n ≡ before + 1 + length xs) → counted mail before (x ∷ xs) ≡ Ok n → n ≡ before + length (x ∷ xs)
counted_ok_by mail before n x xs true e rest h = absurd (cc (counted_failed mail before x xs e))
counted_ok_by mail before n x xs false e rest h = omega (arith, rest (sym (counted_passed mail before x xs e) ∙ h))

pub counted_ok : (mail : Mail) (before n : ℕ) (xs : List Condition) → counted mail before xs ≡ Ok n → n ≡ before + length xs
counted_ok mail before n [] h = cc
counted_ok mail before n (x ∷ xs) h = counted_ok_by mail before n x xs (fails mail x) refl (counted_ok mail (before + 1) n xs) h

-- and what stands behind them decides
passed_by : (mail : Mail) (before n : ℕ) (x : Condition) (xs ys : List Condition) (b : Bool) → fails mail x ≡ b
    → (counted mail (before + 1) xs ≡ Ok n → counted mail (before + 1) (xs ++ ys) ≡ counted mail n ys)
    → counted mail before (x ∷ xs) ≡ Ok n → counted mail before (x ∷ xs ++ ys) ≡ counted mail n ys
passed_by mail before n x xs ys true e rest h = absurd (cc (counted_failed mail before x xs e))
passed_by mail before n x xs ys false e rest h = counted_passed mail before x (xs ++ ys) e ∙ rest (sym (counted_passed mail before x xs e) ∙ h)

pub passed : (mail : Mail) (before n : ℕ) (xs ys : List Condition) → counted mail before xs ≡ Ok n → counted mail before (xs ++ ys) ≡ counted mail n ys
passed mail before n [] ys h = let e : n ≡ before = omega (arith, counted_ok mail before n [] h) in rw e
passed mail before n (x ∷ xs) ys h = passed_by mail before n x xs ys (fails mail x) refl (passed mail (before + 1) n xs ys) h

-- the first that fails stays the first
failed_by : (mail : Mail) (before : ℕ) (error : MatchError) (x : Condition) (xs ys : List Condition) (b : Bool) → fails mail x ≡ b
    → (counted mail (before + 1) xs ≡ Err error → counted mail (before + 1) (xs ++ ys) ≡ Err error)
    → counted mail before (x ∷ xs) ≡ Err error → counted mail before (x ∷ xs ++ ys) ≡ Err error
failed_by mail before error x xs ys true e rest h = counted_failed mail before x (xs ++ ys) e ∙ sym (counted_failed mail before x xs e) ∙ h
failed_by mail before error x xs ys false e rest h = counted_passed mail before x (xs ++ ys) e ∙ rest (sym (counted_passed mail before x xs e) ∙ h)

pub failed : (mail : Mail) (before : ℕ) (error : MatchError) (xs ys : List Condition) → counted mail before xs ≡ Err error → counted mail before (xs ++ ys) ≡ Err error
failed mail before error [] ys h = absurd cc
failed mail before error (x ∷ xs) ys h = failed_by mail before error x xs ys (fails mail x) refl (failed mail (before + 1) error xs ys) h

-- the same of a fault that is told, or of none
fault_by : (mail : Mail) (before : ℕ) (fault : Option MatchError) (xs ys : List Condition) → IsFault fault (counted mail before xs) → IsFault fault (counted mail before (xs ++ ys))
fault_by mail before None xs ys h = tt
fault_by mail before (Some error) xs ys h = failed mail before error xs ys h

module _ (mail : Mail) (before : ℕ) (xs : List MatchExpr) (i : ℕ) (x : MatchExpr) (lt : i < length xs) (is : x ≡ get_or xs i x) where
  pub stays : (error : MatchError) (said : Result ℕ MatchError) → counted mail before (flat_map conditions_of (drop i xs)) ≡ said
      → IsFault (told error) (counted mail before (conditions_of x)) → IsFault (told error) said
  stays error said rest h =
      subst (IsFault (told error)) rest
      (subst (λ (cs : List Condition). IsFault (told error) (counted mail before cs)) (sym (left xs i x lt is)) (fault_by mail before (told error) (conditions_of x) (flat_map conditions_of (drop (i + 1) xs)) h))

  pub goes_on : (n : ℕ) (said : Result ℕ MatchError) → counted mail before (flat_map conditions_of (drop i xs)) ≡ said
      → counted mail before (conditions_of x) ≡ Ok n → counted mail n (flat_map conditions_of (drop (i + 1) xs)) ≡ said
  goes_on n said rest h =
      sym (passed mail before n (conditions_of x) (flat_map conditions_of (drop (i + 1) xs)) h)
      ∙ sym (ap (λ (cs : List Condition). counted mail before cs) (left xs i x lt is))
      ∙ rest

  pub few_left : (n most : ℕ) → before + length (flat_map conditions_of (drop i xs)) < most → counted mail before (conditions_of x) ≡ Ok n
      → n + length (flat_map conditions_of (drop (i + 1) xs)) < most
  few_left n most few h =
      omega (arith, counted_ok mail before n (conditions_of x) h, ap length (left xs i x lt is), length-append (conditions_of x) (flat_map conditions_of (drop (i + 1) xs)))

-- ---- What is found without a failure

pub fault_so : {X Y : Type 0} (first : Option ℕ) (x : X) (y : Y) (fault : Option MatchError) → IsFault fault (unless_failed first x) → IsFault fault (unless_failed first y)
fault_so first x y None h = tt
fault_so None x y (Some error) h = absurd cc
fault_so (Some number) x y (Some error) h = ap Err cc

pub passed_so : {X Y : Type 0} (first : Option ℕ) (x n : X) (y : Y) → unless_failed first x ≡ Ok n → unless_failed first y ≡ Ok y
passed_so None x n y h = refl
passed_so (Some number) x n y h = absurd cc
