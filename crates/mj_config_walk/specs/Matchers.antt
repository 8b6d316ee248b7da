-- Matchers: a text, which is a condition, or a composite of matchers.
use Rattle.std.specs.Prelude.{ℕ, ◌+◌, nat_le, ◌==◌, Bool, true, false, ◌&&◌, if◌then◌else◌, List, [], ◌∷◌, codes, Result, Ok, Err}
use Rattle.std.specs.Str.{bytes_eq}
use Rattle.toml.specs.Data.{Data, string, array, table, Items, no_items, item, Members, no_members, member}
use Rattle.mj_plan.specs.declared.condition.Condition.{Condition}
use Rattle.mj_plan.specs.declared.matcher.MatchExpr.{MatchExpr}
use Rattle.mj_plan.specs.declared.matcher.MatchExpr.TheVariants.{One, And, Or, Not, Xor}
use Rattle.mj_config_walk.specs.declared.fault.PlanKind.{PlanKind}
use Rattle.mj_config_walk.specs.declared.fault.PlanKind.TheVariants.{WrongType, BadArgument, TooDeep, TooMany}
use Rattle.mj_terms.specs.Answers.{◌>>=◌}
use Rattle.mj_config_walk.specs.Values.{checked, items_len}
use Rattle.mj_config_walk.specs.Conditions.{condition}

-- each member of the array is a text or a table
abbrev pub is_matcher_value : Data → Bool
is_matcher_value (string s) = true
is_matcher_value (table inside) = true
is_matcher_value other = false

abbrev pub are_matcher_values : Items → Bool
are_matcher_values no_items = true
are_matcher_values (item value rest) = is_matcher_value value && are_matcher_values rest

-- the composite of this name with so many children
abbrev pub composite_named : List ℕ → ℕ → Result (List MatchExpr → MatchExpr) PlanKind
composite_named name children =
    if bytes_eq name (codes "And") then checked (nat_le 1 children) BadArgument And
    else (if bytes_eq name (codes "Or") then checked (nat_le 1 children) BadArgument Or
    else (if bytes_eq name (codes "Not") then checked (nat_le 1 children) BadArgument Not
    else (if bytes_eq name (codes "Xor") then checked (children == 2) BadArgument Xor
    else Err BadArgument)))

-- the matcher of a condition, behind so many, and of a composite and its children
abbrev pub one : ℕ → Result Condition PlanKind → Result (MatchExpr × ℕ) PlanKind
one count read = do
  c ← read
  Ok (One c, count + 1)

abbrev pub composed : Result (List MatchExpr → MatchExpr) PlanKind → Result (List MatchExpr × ℕ) PlanKind → Result (MatchExpr × ℕ) PlanKind
composed composite children = do
  build ← composite
  read ← children
  Ok (build read.0, read.1)

-- A matcher inside so many composites, where so many conditions stand to its left, and how many stand there with it.
-- It is read from the left and from outside in.
abbrev mutual
  pub matcher_at : ℕ → ℕ → Data → Result (MatchExpr × ℕ) PlanKind
  matcher_at depth count (string s) = if nat_le 100 count then Err TooMany else one count (condition s)
  matcher_at depth count (table inside) = if nat_le 16 depth then Err TooDeep else composite_at depth count inside
  matcher_at depth count other = Err WrongType

  pub composite_at : ℕ → ℕ → Members → Result (MatchExpr × ℕ) PlanKind
  composite_at depth count (member name (array children) no_members) =
      if are_matcher_values children then composed (composite_named name (items_len children)) (matchers_at (depth + 1) count children)
      else Err WrongType
  composite_at depth count (member name other no_members) = Err WrongType
  composite_at depth count other = Err BadArgument

  pub matchers_at : ℕ → ℕ → Items → Result (List MatchExpr × ℕ) PlanKind
  matchers_at depth count no_items = Ok ([], count)
  matchers_at depth count (item value rest) = do
    first ← matcher_at depth count value
    others ← matchers_at depth first.1 rest
    Ok (first.0 ∷ others.0, others.1)

-- the matcher of a step
abbrev pub matcher : Data → Result MatchExpr PlanKind
matcher value = do
  read ← matcher_at 0 0 value
  Ok read.0
