use Rattle.std.proofs.Common.{◌≡◌, ◌+◌, ◌++◌, drop, length, map}
use Rattle.toml.specs.View.{table_view}
use Rattle.mj_config_walk.specs.Walk.{deliveries, steps_from}
use Rattle.mj_config_walk.proofs.Ahead.{ahead}
use Rattle.mj_config.proofs.steps.steps.Given as goal

abbrev pub invariant-loop-table : goal.invariant-loop-table
invariant-loop-table l = record {
  count : length l.steps ≡ l.table-index;
  taken : l.taken ≡ l.initial.taken ++ deliveries l.steps;
  exact : steps_from l.names l.initial.taken l.processor 1 (map (λ t. table_view t.now) l.tables)
      ≡ ahead l.steps (steps_from l.names l.taken l.processor (l.table-index + 1) (map (λ t. table_view t.now) (drop l.table-index l.tables)));
}
