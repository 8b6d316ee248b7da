use Rattle.std.proofs.Common.{◌≡◌, drop}
use Rattle.toml.specs.View.{items_view}
use Rattle.mj_config_walk.specs.Values.{each_text, local_part}
use Rattle.mj_config_walk.proofs.Ahead.{ahead}
use Rattle.mj_config_values.proofs.arrays.local_parts_in.Given as goal

abbrev pub invariant-loop-value : goal.invariant-loop-value
invariant-loop-value l = each_text local_part (items_view l.values) ≡ ahead l.local_parts (each_text local_part (items_view (drop l.value-index l.values)))
