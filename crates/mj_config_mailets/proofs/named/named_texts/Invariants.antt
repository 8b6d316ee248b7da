use Rattle.std.proofs.Common.{◌≡◌}
use Rattle.toml.specs.View.{members_view, table_view}
use Rattle.mj_config_walk.specs.Mailets.{named_texts}
use Rattle.mj_config_walk.proofs.Ahead.{ahead}
use Rattle.mj_config_mailets.proofs.named.named_texts.Given as goal

-- the texts so far, and behind them those that are left
abbrev pub invariant-loop-name : goal.invariant-loop-name
invariant-loop-name l = ahead l.named (named_texts (members_view l.name-iterator)) ≡ named_texts (table_view l.table)
