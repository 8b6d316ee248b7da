use Rattle.std.proofs.Common.{◌≤◌}
use Rattle.std.specs.List.{All}
use Rattle.ready_bench.proofs.fill.Given as goal

abbrev pub invariant-loop-due : goal.invariant-loop-due
invariant-loop-due l = record {
  room : l.due ≤ l.queue.spare;
  later : All (λ pair. l.due ≤ pair.0) l.queue.pairs;
}
