use Rattle.std.proofs.Common.{◌≡◌, ◌++◌, drop, map}
use Rattle.mj_address.specs.Same.{with_lower_local}
use Rattle.mj_changes.proofs.recipients.lowered.Given as goal

abbrev pub invariant-loop-r : goal.invariant-loop-r
invariant-loop-r l = l.addresses.items ++ map with_lower_local (drop l.r-index l.recipients) ≡ map with_lower_local l.recipients
