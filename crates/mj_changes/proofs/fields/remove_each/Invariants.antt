use Rattle.std.proofs.Common.{◌≡◌, drop}
use Rattle.mj_container.specs.Changes.{without_fields}
use Rattle.mj_changes.proofs.fields.remove_each.Given as goal

abbrev pub invariant-loop-name : goal.invariant-loop-name
invariant-loop-name l = without_fields (drop l.name-index l.names) l.head ≡ without_fields l.names l.initial.head
