use Rattle.std.proofs.Common.{◌-◌, length}
use Rattle.mj_head.specs.Head.{fields_in}
use Rattle.mj_head.proofs.Removal.{Closing, others}
use Rattle.mj_head.proofs.fields.remove_named.Given as goal

abbrev pub invariant-loop-from : goal.invariant-loop-from
invariant-loop-from l = Closing (others l.name) (fields_in l.initial.text.items) l.text.items l.from l.kept

abbrev pub decreases-loop-from : goal.decreases-loop-from
decreases-loop-from l = length l.text.items - l.from
