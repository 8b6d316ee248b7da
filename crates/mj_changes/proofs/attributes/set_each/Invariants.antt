use Rattle.std.proofs.Common.{◌≡◌, drop}
use Rattle.mj_container.specs.Changes.{with_each}
use Rattle.mj_changes.proofs.attributes.set_each.Given as goal

abbrev pub invariant-loop-name : goal.invariant-loop-name
invariant-loop-name l = with_each (drop l.name-index l.named) l.attributes ≡ with_each l.named l.initial.attributes
