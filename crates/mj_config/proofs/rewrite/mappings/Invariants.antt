use Rattle.std.proofs.Common.{◌≡◌, drop, map}
use Rattle.toml.specs.View.{table_view}
use Rattle.mj_config_walk.specs.Values.{each}
use Rattle.mj_config_walk.specs.Walk.{mapping_of}
use Rattle.mj_config_walk.proofs.Ahead.{ahead}
use Rattle.mj_config.proofs.rewrite.mappings.Given as goal

abbrev pub invariant-loop-row : goal.invariant-loop-row
invariant-loop-row l = each mapping_of (map (λ t. table_view t.now) l.rows) ≡ ahead l.mappings (each mapping_of (map (λ t. table_view t.now) (drop l.row-index l.rows)))
