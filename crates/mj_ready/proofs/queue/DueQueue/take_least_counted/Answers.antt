use Rattle.std.proofs.Common.{◌≡◌, length, sym, ap, ◌∙◌}
use Rattle.std.proofs.lemmas.List.{nil_from_length}
use Rattle.mj_ready.specs.Due.{is_before}
use Rattle.mj_ready.proofs.Ordered.{pairs_in_order, length-in_order}
use Rattle.mj_ready.proofs.queue.DueQueue.take_least_counted.Goals as goal

pub returns-clause-none : goal.returns-clause-none
returns-clause-none g c =
    let rows = c.self.inside.rows.rows in
    let size : length rows ≡ length c.args.self.now.pairs =
    sym (length-in_order is_before pairs_in_order rows) ∙ ap (λ queue. length queue.pairs) c.self.view_is in
    λ empty. c.take.ensures.none (nil_from_length rows (size ∙ ap length empty))

pub returns-clause-cost : goal.returns-clause-cost
returns-clause-cost g c =
    let size : length c.self.inside.rows.rows ≡ length c.args.self.now.pairs =
    sym (length-in_order is_before pairs_in_order c.self.inside.rows.rows) ∙ ap (λ queue. length queue.pairs) c.self.view_is in
    λ k depth. c.take.ensures.cost k (rw size depth)
