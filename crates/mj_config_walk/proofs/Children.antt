-- The children of a composite while they are read.
use Rattle.std.proofs.Common.{◌≡◌, ℕ, ◌+◌, Bool, true, false, cond, List, [], ◌∷◌, ◌++◌, length, Result, Ok, Err, refl, ap, ◌∙◌, add-one}
use Rattle.toml.specs.Data.{array, member, no_members}
use Rattle.toml.specs.View.{items_view}
use Rattle.toml.specs.declared.value.Value.{Value}
use Rattle.mj_plan.specs.declared.matcher.MatchExpr.{MatchExpr}
use Rattle.mj_config_walk.specs.declared.fault.PlanKind.{PlanKind}
use Rattle.mj_config_walk.specs.declared.fault.PlanKind.TheVariants.{WrongType}
use Rattle.mj_config_walk.specs.Values.{items_len}
use Rattle.mj_config_walk.specs.Matchers.{are_matcher_values, composed, composite_at, composite_named, matchers_at}

-- the matchers so far, and behind them those that are still to be read
abbrev pub followed : List MatchExpr → Result (List MatchExpr × ℕ) PlanKind → Result (List MatchExpr × ℕ) PlanKind
followed so_far (Ok read) = Ok (so_far ++ read.0, read.1)
followed so_far (Err kind) = Err kind

-- as many items as values
pub items_count : (values : List Value) → items_len (items_view values) ≡ length values
items_count [] = refl
items_count (value ∷ values) = ap (λ n. n + 1) (items_count values) ∙ add-one (length values)

-- the composite of a key whose value is an array
abbrev chosen : ℕ → ℕ → List ℕ → List Value → Bool → Result (MatchExpr × ℕ) PlanKind
chosen depth count name values good = cond good (composed (composite_named name (items_len (items_view values))) (matchers_at (depth + 1) count (items_view values))) (Err WrongType)

pub checked_children : (depth count : ℕ) (name : List ℕ) (values : List Value) → are_matcher_values (items_view values) ≡ true → composite_at depth count (member name (array (items_view values)) no_members) ≡ composed (composite_named name (length values)) (matchers_at (depth + 1) count (items_view values))
checked_children depth count name values good =
    ap (λ (b : Bool). chosen depth count name values b) good
    ∙ ap (λ (n : ℕ). composed (composite_named name n) (matchers_at (depth + 1) count (items_view values))) (items_count values)

pub other_children : (depth count : ℕ) (name : List ℕ) (values : List Value) → are_matcher_values (items_view values) ≡ false → composite_at depth count (member name (array (items_view values)) no_members) ≡ Err WrongType
other_children depth count name values bad = ap (λ (b : Bool). chosen depth count name values b) bad
