use Rattle.std.proofs.Common.{◌∙◌}
use Rattle.toml.specs.View.{table_view}
use Rattle.mj_config_walk.specs.Walk.{mapping_of}
use Rattle.mj_config_walk.proofs.Ahead.{each_next}
use Rattle.mj_config.proofs.rewrite.mappings.Goals as goal

pub loop-row-preserved : goal.loop-row-preserved
loop-row-preserved c =
    c.loop-row.invariant
    ∙ each_next (λ t. table_view t.now) mapping_of c.args.rows.now c.loop-row.row-index c.row-item.result c.loop-row.mappings c.push.new.self
    c.in_ok-mapping.field-0 c.loop-row-test.true c.row-item.is c.in_ok-mapping.ensures c.in_ok-push.ensures.ok
