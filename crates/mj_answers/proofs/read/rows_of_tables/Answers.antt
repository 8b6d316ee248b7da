use Rattle.std.proofs.Common.{arith, ap, length, ◌+◌, ◌∙◌}
use Rattle.std.proofs.lemmas.List.{length_push}
use Rattle.toml.specs.View.{table_view}
use Rattle.mj_answers.specs.Places.{has_reply}
use Rattle.mj_answers.proofs.InTurn.{all_more, row_next}
use Rattle.mj_answers.proofs.read.rows_of_tables.Goals as goal

pub loop-table-preserved : goal.loop-table-preserved
loop-table-preserved c =
    let so_far = c.loop-table.invariant in
    let read = c.in_ok-row_at.ensures in
    let grown = c.in_ok-push.ensures.ok in
    record {
      count = ap length grown ∙ length_push c.loop-table.rows c.in_ok-row_at.field-0 ∙ ap (λ n. n + 1) so_far.count;
      formed = all_more has_reply c.loop-table.rows c.push.new.self c.in_ok-row_at.field-0 so_far.formed read.formed grown;
      exact = so_far.exact
          ∙ row_next (λ t. table_view t.now) c.args.tables.now c.loop-table.table-index (c.len.result + 1) c.table-item.result c.loop-table.rows c.push.new.self
          c.in_ok-row_at.field-0 c.loop-table-test.true c.table-item.is (omega (arith, c.len.ensures, so_far.count)) read.exact grown;
    }
