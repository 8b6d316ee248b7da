-- A composite takes a recipient by how many of its children do.
use Rattle.std.proofs.Common.{◌≡◌, ℕ, suc, ◌+◌, ◌<◌, ◌≤◌, Bool, true, false, not, List, [], ◌∷◌, ◌++◌, length, map, replicate, refl, sym, ap, ◌∙◌, arith}
use Rattle.std.specs.List.{AllByRecursion, list_all, list_any}
use Rattle.std.proofs.lemmas.Bool.Decides.{nat_tests}
use Rattle.std.proofs.lemmas.List.{length-map, map_push}
use Rattle.mj_mail.specs.declared.mail.Mail.{Mail}
use Rattle.mj_plan.specs.declared.condition.Condition.{Condition}
use Rattle.mj_plan.specs.declared.matcher.MatchExpr.{MatchExpr}
use Rattle.mj_plan.specs.declared.matcher.MatchExpr.TheVariants.{One, And, Or, Not, Xor}
use Rattle.mj_plan.specs.declared.plan.Plan.{Plan}
use Rattle.mj_plan.specs.Sound.{is_between}
use Rattle.mj_container.specs.Matching.{Mailbox, hits, hits_at, holds, is_one}
use Rattle.mj_match.specs.Composites.{how_many, hits_of, one_more, with_truths}
use Rattle.mj_match.specs.Evaluated.{truths}
use Rattle.mj_container.proofs.Matchers.{fold-One, fold-And, fold-Or, fold-Not, fold-Xor}
use Rattle.mj_match.proofs.Lists.{all_of_map, beside, map_same, map_twice, one_for_all}

-- ---- Truths, counted

how_many-le : (bs : List Bool) → how_many bs ≤ length bs
how_many-le [] = omega arith
how_many-le (true ∷ bs) = omega (arith, how_many-le bs)
how_many-le (false ∷ bs) = omega (arith, how_many-le bs)

how_many_more : (bs : List Bool) (b : Bool) → how_many (bs ++ b ∷ []) ≡ one_more (how_many bs) b
how_many_more [] true = refl
how_many_more [] false = refl
how_many_more (true ∷ bs) true = ap suc (how_many_more bs true)
how_many_more (true ∷ bs) false = ap suc (how_many_more bs false)
how_many_more (false ∷ bs) b = how_many_more bs b

all_true : (bs : List Bool) → is_between (length bs) (length bs) (how_many bs) ≡ list_all (λ b. b) bs
all_true [] = refl
all_true (true ∷ bs) = grind (arith, nat_tests, all_true bs)
all_true (false ∷ bs) = grind (arith, nat_tests, how_many-le bs)

some_true : (bs : List Bool) → is_between 1 (length bs) (how_many bs) ≡ list_any (λ b. b) bs
some_true [] = refl
some_true (true ∷ bs) = grind (arith, nat_tests, how_many-le bs)
some_true (false ∷ bs) = grind (arith, nat_tests, how_many-le bs, some_true bs)

none_true : (bs : List Bool) → is_between 0 0 (how_many bs) ≡ not (list_any (λ b. b) bs)
none_true [] = refl
none_true (true ∷ bs) = grind (arith, nat_tests)
none_true (false ∷ bs) = none_true bs

one_true : (bs : List Bool) → is_between 1 1 (how_many bs) ≡ is_one bs
one_true bs = grind (arith, nat_tests)

-- ---- Matchers

module _ (plan : Plan) (mail : Mail) where
  hits_of-le : (xs : List MatchExpr) (r : Mailbox) → hits_of plan mail xs r ≤ length xs
  hits_of-le xs r = rw (sym (length-map xs (hits plan mail r))) (how_many-le (map (hits plan mail r) xs))

  between_of : (least most : ℕ) (xs : List MatchExpr) (f : Mailbox → Bool) → ((r : Mailbox) → is_between least most (hits_of plan mail xs r) ≡ f r)
      → map (is_between least most) (map (hits_of plan mail xs) mail.recipients) ≡ map f mail.recipients
  between_of least most xs f same = map_twice (is_between least most) (hits_of plan mail xs) mail.recipients ∙ map_same (λ r. is_between least most (hits_of plan mail xs r)) f same mail.recipients

  pub one_truths : (c : Condition) → map (λ r. holds plan mail r c) mail.recipients ≡ truths plan mail (One c)
  one_truths c = map_same (λ r. holds plan mail r c) (λ r. hits plan mail r (One c)) (λ r. sym (fold-One (hits_at plan mail r) c)) mail.recipients

  and_hits : (xs : List MatchExpr) (r : Mailbox) → is_between (length xs) (length xs) (hits_of plan mail xs r) ≡ hits plan mail r (And xs)
  and_hits xs r = rw (sym (length-map xs (hits plan mail r))) (all_true (map (hits plan mail r) xs) ∙ sym (fold-And (hits_at plan mail r) xs))

  pub and_truths : (xs : List MatchExpr) → map (is_between (length xs) (length xs)) (map (hits_of plan mail xs) mail.recipients) ≡ truths plan mail (And xs)
  and_truths xs = between_of (length xs) (length xs) xs (λ r. hits plan mail r (And xs)) (and_hits xs)

  or_hits : (xs : List MatchExpr) (r : Mailbox) → is_between 1 (length xs) (hits_of plan mail xs r) ≡ hits plan mail r (Or xs)
  or_hits xs r = rw (sym (length-map xs (hits plan mail r))) (some_true (map (hits plan mail r) xs) ∙ sym (fold-Or (hits_at plan mail r) xs))

  pub or_truths : (xs : List MatchExpr) → map (is_between 1 (length xs)) (map (hits_of plan mail xs) mail.recipients) ≡ truths plan mail (Or xs)
  or_truths xs = between_of 1 (length xs) xs (λ r. hits plan mail r (Or xs)) (or_hits xs)

  pub not_truths : (xs : List MatchExpr) → map (is_between 0 0) (map (hits_of plan mail xs) mail.recipients) ≡ truths plan mail (Not xs)
  not_truths xs = between_of 0 0 xs (λ r. hits plan mail r (Not xs)) (λ r. none_true (map (hits plan mail r) xs) ∙ sym (fold-Not (hits_at plan mail r) xs))

  pub xor_truths : (xs : List MatchExpr) → map (is_between 1 1) (map (hits_of plan mail xs) mail.recipients) ≡ truths plan mail (Xor xs)
  xor_truths xs = between_of 1 1 xs (λ r. hits plan mail r (Xor xs)) (λ r. one_true (map (hits plan mail r) xs) ∙ sym (fold-Xor (hits_at plan mail r) xs))

  -- ---- One matcher after another

  pub no_hits : (rs : List Mailbox) → replicate (length rs) 0 ≡ map (hits_of plan mail []) rs
  no_hits rs = one_for_all (hits_of plan mail []) 0 (λ r. refl) rs

  more_at : (xs : List MatchExpr) (x : MatchExpr) (r : Mailbox) → one_more (hits_of plan mail xs r) (hits plan mail r x) ≡ hits_of plan mail (xs ++ x ∷ []) r
  more_at xs x r = sym (ap how_many (map_push (hits plan mail r) xs x) ∙ how_many_more (map (hits plan mail r) xs) (hits plan mail r x))

  pub more_hits : (xs : List MatchExpr) (x : MatchExpr) (rs : List Mailbox) → with_truths (map (hits_of plan mail xs) rs) (map (λ r. hits plan mail r x) rs) ≡ map (hits_of plan mail (xs ++ x ∷ [])) rs
  more_hits xs x rs = beside (hits_of plan mail xs) (λ r. hits plan mail r x) rs ∙ map_same (λ r. one_more (hits_of plan mail xs r) (hits plan mail r x)) (hits_of plan mail (xs ++ x ∷ [])) (more_at xs x) rs

  pub few_hits : (xs : List MatchExpr) (most : ℕ) (rs : List Mailbox) → length xs + 1 < most → AllByRecursion (λ count. count + 1 < most) (map (hits_of plan mail xs) rs)
  few_hits xs most rs few = all_of_map (λ count. count + 1 < most) (hits_of plan mail xs) (λ r. omega (arith, hits_of-le xs r)) rs
