use Rattle.std.proofs.Common.{◌≡◌, ◌≤◌, length}
use Rattle.log_bench.proofs.print_payloads.Given as goal

abbrev pub invariant-loop-number : goal.invariant-loop-number
invariant-loop-number g l = record {
  end : l.number-end ≡ length l.log.places;
  within : l.number ≤ l.number-end;
}
