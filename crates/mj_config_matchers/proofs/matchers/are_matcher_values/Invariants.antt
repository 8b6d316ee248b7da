use Rattle.std.proofs.Common.{◌≡◌, drop}
use Rattle.toml.specs.View.{items_view}
use Rattle.mj_config_walk.specs.Matchers.{are_matcher_values}
use Rattle.mj_config_matchers.proofs.matchers.are_matcher_values.Given as goal

abbrev pub invariant-loop-value : goal.invariant-loop-value
invariant-loop-value l = are_matcher_values (items_view (drop l.value-index l.values)) ≡ are_matcher_values (items_view l.values)
