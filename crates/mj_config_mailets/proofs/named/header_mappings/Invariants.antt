use Rattle.std.proofs.Common.{◌≡◌, drop}
use Rattle.toml.specs.View.{items_view}
use Rattle.mj_config_walk.specs.Values.{each_text}
use Rattle.mj_config_walk.specs.Mailets.{header_mapping}
use Rattle.mj_config_walk.proofs.Ahead.{ahead}
use Rattle.mj_config_mailets.proofs.named.header_mappings.Given as goal

-- the pairs so far, and behind them those that are left
abbrev pub invariant-loop-pair : goal.invariant-loop-pair
invariant-loop-pair l = ahead l.mappings (each_text header_mapping (items_view (drop l.pair-index l.pairs))) ≡ each_text header_mapping (items_view l.pairs)
