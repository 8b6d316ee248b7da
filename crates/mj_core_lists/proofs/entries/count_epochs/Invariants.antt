use Rattle.std.proofs.Common.{◌≡◌, ◌+◌, ◌≤◌, drop}
use Rattle.mj_lawful.specs.Entries.{epochs}
use Rattle.mj_core_lists.proofs.entries.count_epochs.Given as goal

abbrev pub invariant-loop-entry : goal.invariant-loop-entry
invariant-loop-entry l = record { count : l.count + epochs (drop l.entry-index l.entries) ≡ epochs l.entries; small : l.count ≤ l.entry-index }
