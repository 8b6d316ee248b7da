use Rattle.std.proofs.Common.{arith, ap, length, ◌+◌, ◌∙◌}
use Rattle.std.proofs.lemmas.List.{length_push}
use Rattle.toml.specs.View.{table_view}
use Rattle.mj_config_walk.proofs.InTurn.{deliveries_more, step_next}
use Rattle.mj_config.proofs.steps.steps.Goals as goal

pub loop-table-preserved : goal.loop-table-preserved
loop-table-preserved c =
    let so_far = c.loop-table.invariant in
    let read = c.in_ok-step_at.ensures in
    let grown = c.in_ok-push.ensures.ok in
    record {
      count = ap length grown ∙ length_push c.loop-table.steps c.in_ok-step_at.field-0 ∙ ap (λ n. n + 1) so_far.count;
      taken = read.taken ∙ deliveries_more c.args.taken.now c.loop-table.taken c.loop-table.steps c.push.new.self c.in_ok-step_at.field-0 so_far.taken grown;
      exact = so_far.exact
          ∙ step_next (λ t. table_view t.now) c.args.names.now c.loop-table.taken c.step_at.new.taken c.args.processor c.args.tables.now c.loop-table.table-index (c.len.result + 1)
          c.table-item.result c.loop-table.steps c.push.new.self c.in_ok-step_at.field-0 c.loop-table-test.true c.table-item.is
          (omega (arith, c.len.ensures, so_far.count)) read.exact read.taken grown;
    }
