use Rattle.std.proofs.Common.{◌≡◌, ◌+◌, ◌≤◌, drop}
use Rattle.mj_lawful.specs.Attempts.{times}
use Rattle.mj_core.proofs.machine.count_name.Given as goal

abbrev pub invariant-loop-other : goal.invariant-loop-other
invariant-loop-other l = record { count : l.count + times l.name (drop l.other-index l.names) ≡ times l.name l.names; small : l.count ≤ l.other-index }
