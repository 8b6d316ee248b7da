-- The matchers that a value is read to have their forms, and not too many conditions or composites inside each other.
use Rattle.std.proofs.Common.{◌≡◌, ℕ, suc, ◌+◌, ◌<◌, ◌≤◌, Bool, true, false, List, [], ◌∷◌, length, map, Result, Err, refl, sym, ap, ◌∙◌, ◌&&◌, arith}
use Rattle.std.specs.Prelude.{if◌then◌else◌, nat_le, ◌==◌, codes}
use Rattle.std.proofs.lemmas.Bool.Decides.{nat_tests}
use Rattle.std.proofs.lemmas.List.{length-map}
use Rattle.std.proofs.lemmas.List.Sums.{sum_by-cons}
use Rattle.std.specs.List.{list_all, sum}
use Rattle.std.specs.Str.{bytes_eq}
use Rattle.toml.specs.Data.{Data, string, array, table, Items, no_items, item, Members, no_members, member}
use Rattle.mj_plan.specs.declared.condition.Condition.{Condition}
use Rattle.mj_plan.specs.declared.matcher.MatchExpr.{MatchExpr}
use Rattle.mj_plan.specs.declared.matcher.MatchExpr.TheVariants.{One, And, Or, Not, Xor, rolls-One, rolls-And, rolls-Or, rolls-Not, rolls-Xor}
use Rattle.mj_plan.specs.declared.matcher.MatchExpr.TheOpen.{MatchExpr-F}
use Rattle.mj_plan.specs.declared.matcher.MatchExpr.TheFolds.{fold-MatchExpr, fold-roll-MatchExpr}
use Rattle.mj_plan.specs.Sound.{conditions, conditions_at, deepest, depth, depth_at, is_formed_at, is_condition, is_formed, is_matcher}
use Rattle.mj_config_walk.specs.declared.fault.PlanKind.{PlanKind}
use Rattle.mj_config_walk.specs.declared.fault.PlanKind.TheVariants.{WrongType, BadArgument, TooDeep, TooMany}
use Rattle.mj_config_walk.specs.Values.{items_len}
use Rattle.mj_config_walk.specs.Conditions.{condition}
use Rattle.mj_config_walk.specs.Matchers.{are_matcher_values, composite_named, one, composed, matcher_at, composite_at, matchers_at, matcher}
use Rattle.mj_config_sound.proofs.Holds.{Holds, ok, err, bind, choose, checks}
use Rattle.mj_config_sound.proofs.SoundConditions.{condition_of}

-- ---- What a fold gives at each variant

fold-One : {A : Type 0} (f : MatchExpr-F A → A) (c : Condition) → fold-MatchExpr A f (One c) ≡ f (MatchExpr-F.One c)
fold-One {A} f c = ap (fold-MatchExpr A f) (sym (rolls-One c)) ∙ fold-roll-MatchExpr A f (MatchExpr-F.One c)

fold-And : {A : Type 0} (f : MatchExpr-F A → A) (xs : List MatchExpr) → fold-MatchExpr A f (And xs) ≡ f (MatchExpr-F.And (map (fold-MatchExpr A f) xs))
fold-And {A} f xs = ap (fold-MatchExpr A f) (sym (rolls-And xs)) ∙ fold-roll-MatchExpr A f (MatchExpr-F.And xs)

fold-Or : {A : Type 0} (f : MatchExpr-F A → A) (xs : List MatchExpr) → fold-MatchExpr A f (Or xs) ≡ f (MatchExpr-F.Or (map (fold-MatchExpr A f) xs))
fold-Or {A} f xs = ap (fold-MatchExpr A f) (sym (rolls-Or xs)) ∙ fold-roll-MatchExpr A f (MatchExpr-F.Or xs)

fold-Not : {A : Type 0} (f : MatchExpr-F A → A) (xs : List MatchExpr) → fold-MatchExpr A f (Not xs) ≡ f (MatchExpr-F.Not (map (fold-MatchExpr A f) xs))
fold-Not {A} f xs = ap (fold-MatchExpr A f) (sym (rolls-Not xs)) ∙ fold-roll-MatchExpr A f (MatchExpr-F.Not xs)

fold-Xor : {A : Type 0} (f : MatchExpr-F A → A) (xs : List MatchExpr) → fold-MatchExpr A f (Xor xs) ≡ f (MatchExpr-F.Xor (map (fold-MatchExpr A f) xs))
fold-Xor {A} f xs = ap (fold-MatchExpr A f) (sym (rolls-Xor xs)) ∙ fold-roll-MatchExpr A f (MatchExpr-F.Xor xs)

-- ---- Composites

-- a matcher that is read inside so many composites, behind so many conditions
record IsRead (inside before : ℕ) (read : MatchExpr × ℕ) : Type 0 where
  formed : is_formed read.0 ≡ true
  counted : conditions read.0 + before ≡ read.1
  few : read.1 ≤ 100
  deep : depth read.0 + inside ≤ 16

-- and several of them
record AreRead (inside before children : ℕ) (read : List MatchExpr × ℕ) : Type 0 where
  long : length read.0 ≡ children
  formed : list_all (λ x. x) (map is_formed read.0) ≡ true
  counted : sum (map conditions read.0) + before ≡ read.1
  few : read.1 ≤ 100
  deep : deepest (map depth read.0) + inside ≤ 16

-- a composite of so many matchers
record IsComposite (children : ℕ) (build : List MatchExpr → MatchExpr) : Type 0 where
  formed : (xs : List MatchExpr) → length xs ≡ children → list_all (λ x. x) (map is_formed xs) ≡ true → is_formed (build xs) ≡ true
  counted : (xs : List MatchExpr) → conditions (build xs) ≡ sum (map conditions xs)
  deep : (xs : List MatchExpr) → depth (build xs) ≡ suc (deepest (map depth xs))

some_formed : (children : ℕ) (xs : List MatchExpr) → nat_le 1 children ≡ true → length xs ≡ children → list_all (λ x. x) (map is_formed xs) ≡ true
    → (nat_le 1 (length (map is_formed xs)) && list_all (λ x. x) (map is_formed xs)) ≡ true
some_formed children xs some long all = rw (length-map xs is_formed, long, some) all

two_formed : (children : ℕ) (xs : List MatchExpr) → (children == 2) ≡ true → length xs ≡ children → list_all (λ x. x) (map is_formed xs) ≡ true
    → ((length (map is_formed xs) == 2) && list_all (λ x. x) (map is_formed xs)) ≡ true
two_formed children xs two long all = rw (length-map xs is_formed, long, two) all

composite-And : (children : ℕ) → nat_le 1 children ≡ true → IsComposite children And
composite-And children enough = record {
  formed = λ xs long all. fold-And is_formed_at xs ∙ some_formed children xs enough long all;
  counted = λ xs. fold-And conditions_at xs;
  deep = λ xs. fold-And depth_at xs;
}

composite-Or : (children : ℕ) → nat_le 1 children ≡ true → IsComposite children Or
composite-Or children enough = record {
  formed = λ xs long all. fold-Or is_formed_at xs ∙ some_formed children xs enough long all;
  counted = λ xs. fold-Or conditions_at xs;
  deep = λ xs. fold-Or depth_at xs;
}

composite-Not : (children : ℕ) → nat_le 1 children ≡ true → IsComposite children Not
composite-Not children enough = record {
  formed = λ xs long all. fold-Not is_formed_at xs ∙ some_formed children xs enough long all;
  counted = λ xs. fold-Not conditions_at xs;
  deep = λ xs. fold-Not depth_at xs;
}

composite-Xor : (children : ℕ) → (children == 2) ≡ true → IsComposite children Xor
composite-Xor children enough = record {
  formed = λ xs long all. fold-Xor is_formed_at xs ∙ two_formed children xs enough long all;
  counted = λ xs. fold-Xor conditions_at xs;
  deep = λ xs. fold-Xor depth_at xs;
}

composite_named_of : (name : List ℕ) (children : ℕ) → Holds (IsComposite children) (composite_named name children)
composite_named_of name children =
    choose (bytes_eq name (codes "And")) (checks (nat_le 1 children) BadArgument And (composite-And children))
    (choose (bytes_eq name (codes "Or")) (checks (nat_le 1 children) BadArgument Or (composite-Or children))
    (choose (bytes_eq name (codes "Not")) (checks (nat_le 1 children) BadArgument Not (composite-Not children))
    (choose (bytes_eq name (codes "Xor")) (checks (children == 2) BadArgument Xor (composite-Xor children))
    (err BadArgument))))

composed_read : (inside before children : ℕ) (build : List MatchExpr → MatchExpr) (read : List MatchExpr × ℕ) → IsComposite children build → AreRead (inside + 1) before children read → IsRead inside before (build read.0, read.1)
composed_read inside before children build read c h = record {
  formed = c.formed read.0 h.long h.formed;
  counted = omega (arith, c.counted read.0, h.counted);
  few = h.few;
  deep = omega (arith, c.deep read.0, h.deep);
}

composed_of : (inside before children : ℕ) (composite : Result (List MatchExpr → MatchExpr) PlanKind) (read : Result (List MatchExpr × ℕ) PlanKind)
    → Holds (IsComposite children) composite → Holds (AreRead (inside + 1) before children) read → Holds (IsRead inside before) (composed composite read)
composed_of inside before children composite read h k =
    bind h (λ build c. bind k (λ all r. ok (build all.0, all.1) (composed_read inside before children build all c r)))

-- ---- Matchers

one_read : (inside before : ℕ) (c : Condition) → inside ≤ 16 → before < 100 → is_condition c ≡ true → IsRead inside before (One c, before + 1)
one_read inside before c deep few h = record {
  formed = fold-One is_formed_at c ∙ h;
  counted = omega (arith, fold-One conditions_at c);
  few = omega arith;
  deep = omega (arith, fold-One depth_at c);
}

one_of : (inside before : ℕ) (full : Bool) (s : List ℕ) → nat_le 100 before ≡ full → inside ≤ 16 → Holds (IsRead inside before) (if full then Err TooMany else one before (condition s))
one_of inside before true s e deep = err TooMany
one_of inside before false s e deep = bind (condition_of s) (λ c h. ok (One c, before + 1) (one_read inside before c deep (grind (arith, nat_tests)) h))

none_read : (inside before : ℕ) → inside ≤ 16 → before ≤ 100 → AreRead inside before 0 ([], before)
none_read inside before deep few = record { long = refl; formed = refl; counted = omega arith; few = few; deep = omega arith }

more_read : (inside before children : ℕ) (first : MatchExpr × ℕ) (others : List MatchExpr × ℕ) → IsRead inside before first → AreRead inside first.1 children others
    → AreRead inside before (children + 1) (first.0 ∷ others.0, others.1)
more_read inside before children first others h k = record {
  long = omega (arith, k.long);
  formed = rw (h.formed, k.formed);
  counted = omega (arith, sum_by-cons (λ n. n) (conditions first.0) (map conditions others.0), h.counted, k.counted);
  few = k.few;
  deep = omega (arith, h.deep, k.deep);
}

deeper_of : {X : Type 0} {Q : X → Type 0} (inside : ℕ) (full : Bool) (r : Result X PlanKind) → nat_le 16 inside ≡ full → (inside + 1 ≤ 16 → Holds Q r) → Holds Q (if full then Err TooDeep else r)
deeper_of inside true r e h = err TooDeep
deeper_of inside false r e h = h (grind (arith, nat_tests))

mutual
  matcher_at_of : (inside before : ℕ) (value : Data) → inside ≤ 16 → before ≤ 100 → Holds (IsRead inside before) (matcher_at inside before value)
  matcher_at_of inside before (string s) deep few = one_of inside before (nat_le 100 before) s refl deep
  matcher_at_of inside before (table members) deep few = deeper_of inside (nat_le 16 inside) (composite_at inside before members) refl (λ deeper. composite_at_of inside before members deeper few)
  matcher_at_of inside before other deep few = err WrongType

  composite_at_of : (inside before : ℕ) (members : Members) → inside + 1 ≤ 16 → before ≤ 100 → Holds (IsRead inside before) (composite_at inside before members)
  composite_at_of inside before (member name (array children) no_members) deep few =
      choose (are_matcher_values children)
      (composed_of inside before (items_len children) (composite_named name (items_len children)) (matchers_at (inside + 1) before children)
      (composite_named_of name (items_len children)) (matchers_at_of (inside + 1) before children deep few))
      (err WrongType)
  composite_at_of inside before (member name other no_members) deep few = err WrongType
  composite_at_of inside before other deep few = err BadArgument

  matchers_at_of : (inside before : ℕ) (children : Items) → inside ≤ 16 → before ≤ 100 → Holds (AreRead inside before (items_len children)) (matchers_at inside before children)
  matchers_at_of inside before no_items deep few = ok ([], before) (none_read inside before deep few)
  matchers_at_of inside before (item value rest) deep few =
      bind (matcher_at_of inside before value deep few) (λ first h.
      bind (matchers_at_of inside first.1 rest deep h.few) (λ others k.
      ok (first.0 ∷ others.0, others.1) (more_read inside before (items_len rest) first others h k)))

whole_read : (read : MatchExpr × ℕ) → IsRead 0 0 read → is_matcher read.0 ≡ true
whole_read read h =
    let many : conditions read.0 ≤ 100 = omega (arith, h.counted, h.few) in
    let deep : depth read.0 ≤ 16 = omega (arith, h.deep) in
    rw h.formed (grind (arith, nat_tests))

pub matcher_of : (value : Data) → Holds (λ x. is_matcher x ≡ true) (matcher value)
matcher_of value = bind (matcher_at_of 0 0 value (omega arith) (omega arith)) (λ read h. ok read.0 (whole_read read h))
