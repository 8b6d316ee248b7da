use Rattle.std.proofs.Common.{◌≡◌, drop}
use Rattle.toml.specs.View.{items_view}
use Rattle.mj_config_walk.specs.Values.{each_text, domain}
use Rattle.mj_config_walk.proofs.Ahead.{ahead}
use Rattle.mj_config_values.proofs.arrays.domains_in.Given as goal

abbrev pub invariant-loop-value : goal.invariant-loop-value
invariant-loop-value l = each_text domain (items_view l.values) ≡ ahead l.domains (each_text domain (items_view (drop l.value-index l.values)))
