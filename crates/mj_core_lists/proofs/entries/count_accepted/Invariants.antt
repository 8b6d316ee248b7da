use Rattle.std.proofs.Common.{◌≡◌, ◌+◌, ◌≤◌, drop, length}
use Rattle.mj_lawful.specs.Entries.{accepted}
use Rattle.mj_core_lists.proofs.entries.count_accepted.Given as goal

abbrev pub invariant-loop-entry : goal.invariant-loop-entry
invariant-loop-entry l = record { count : l.count + length (accepted (drop l.entry-index l.entries)) ≡ length (accepted l.entries); small : l.count ≤ l.entry-index }
