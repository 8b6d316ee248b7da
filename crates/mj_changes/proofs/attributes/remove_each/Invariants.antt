use Rattle.std.proofs.Common.{◌≡◌, drop}
use Rattle.mj_container.specs.Changes.{without_each}
use Rattle.mj_changes.proofs.attributes.remove_each.Given as goal

abbrev pub invariant-loop-name : goal.invariant-loop-name
invariant-loop-name l = without_each (drop l.name-index l.names) l.attributes ≡ without_each l.names l.initial.attributes
