use Rattle.std.proofs.Common.{◌≡◌, drop}
use Rattle.std.specs.Option.{option_copied}
use Rattle.mj_lawful.specs.Entries.{in_force, plan_behind}
use Rattle.mj_core_lists.proofs.entries.find_in_force.Given as goal

abbrev pub invariant-loop-entry : goal.invariant-loop-entry
invariant-loop-entry l = plan_behind (option_copied l.plan) (drop l.entry-index l.entries) ≡ in_force l.entries
