use Rattle.std.proofs.Common.{◌-◌, ◌≤◌, arith}
use Rattle.std.proofs.lemmas.List.Elements.{All-weaker}
use Rattle.mj_ready.proofs.Uses.{All-inserted}
use Rattle.ready_bench.proofs.fill.Goals as goal

pub loop-due-preserved : goal.loop-due-preserved
loop-due-preserved c =
    let due = c.loop-due.due in
    let later =
    All-weaker (λ pair. due ≤ pair.0) (λ pair. due - 1 ≤ pair.0) (λ pair after. omega arith) c.loop-due.queue.pairs
    c.loop-due.invariant.later in
    record {
      room = omega (arith, c.add.ensures.spare);
      later = rw c.add.ensures.pairs (All-inserted (λ pair. due - 1 ≤ pair.0) (c.from.result, 0) c.loop-due.queue.pairs (omega (arith, c.from.ensures)) later);
    }
