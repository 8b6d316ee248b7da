use Rattle.std.proofs.Common.{◌≡◌, length, sym, ap, ◌∙◌}
use Rattle.mj_ready.specs.Due.{is_before}
use Rattle.mj_ready.specs.Heap.{in_order}
use Rattle.mj_ready.proofs.Ordered.{pairs_in_order, ascending-inserted, length-in_order}
use Rattle.mj_ready.proofs.queue.DueQueue.add_counted.Goals as goal

pub invariant_of-self : goal.invariant_of-self
invariant_of-self g c =
    let pairs : in_order is_before c.self.inside.rows.rows ≡ c.args.self.now.pairs = ap (λ queue. queue.pairs) c.self.view_is in
    let absent = rw (← pairs) at c.requires.absent in
    (c.put.ensures.heap, rw c.put.ensures.pairs (ascending-inserted is_before pairs_in_order _ _ absent c.self.invariant.1))

pub returns-clause-cost : goal.returns-clause-cost
returns-clause-cost g c =
    let size : length c.self.inside.rows.rows ≡ length c.args.self.now.pairs =
    sym (length-in_order is_before pairs_in_order c.self.inside.rows.rows) ∙ ap (λ queue. length queue.pairs) c.self.view_is in
    λ k depth. c.put.ensures.cost k (rw size depth)
