-- Composites by their names, and tables of one member.
use Rattle.std.specs.Prelude.{Bool, true, false, List}
use Rattle.toml.specs.Data.{Members, no_members, member}
use Rattle.mj_plan.specs.declared.matcher.MatchExpr.{MatchExpr}
use Rattle.mj_plan.specs.declared.matcher.MatchExpr.TheVariants.{And, Or, Not, Xor}
use Rattle.mj_config_matchers.specs.declared.matchers.Composite.{Composite}
use Rattle.mj_config_matchers.specs.declared.matchers.Composite.TheVariants as composite

-- the composite of some children
abbrev pub build : Composite → List MatchExpr → MatchExpr
build composite.And = And
build composite.Or = Or
build composite.Not = Not
build composite.Xor = Xor

abbrev pub has_one_member : Members → Bool
has_one_member (member name value no_members) = true
has_one_member other = false
