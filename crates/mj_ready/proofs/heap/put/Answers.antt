use Rattle.std.proofs.Common.{ap, ◌∙◌}
use Rattle.mj_ready.specs.Due.{is_before}
use Rattle.mj_ready.specs.Heap.{in_order}
use Rattle.mj_ready.proofs.Ordered.{pairs_in_order, in_order-push}
use Rattle.mj_ready.proofs.heap.put.Goals as goal

pub returns-clause-pairs : goal.returns-clause-pairs
returns-clause-pairs g c =
    c.rise.ensures.pairs
    ∙ ap (in_order is_before) c.push.ensures.rows
    ∙ in_order-push is_before pairs_in_order c.args.rows.now.rows c.args.row
