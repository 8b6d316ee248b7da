use Rattle.std.proofs.Common.{◌≡◌, drop, map}
use Rattle.toml.specs.View.{items_view, table_view}
use Rattle.mj_config_walk.specs.Values.{tables_in}
use Rattle.mj_config_walk.proofs.Ahead.{ahead}
use Rattle.mj_config_values.proofs.tables.tables_in.Given as goal

abbrev pub invariant-loop-value : goal.invariant-loop-value
invariant-loop-value l = tables_in (items_view l.values) ≡ ahead (map (λ t. table_view t.now) l.tables.items) (tables_in (items_view (drop l.value-index l.values)))
