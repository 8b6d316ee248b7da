use Rattle.std.proofs.Common.{length}
use Rattle.mj_disk.specs.Media.{IsOutside}
use Rattle.mj_disk.specs.Tape.{ranges}
use Rattle.mj_disk.proofs.image.is_outside.Given as goal

abbrev pub invariant-loop-rest : goal.invariant-loop-rest
invariant-loop-rest l = IsOutside (ranges l.calls) l.place → IsOutside (ranges l.rest) l.place

abbrev pub decreases-loop-rest : goal.decreases-loop-rest
decreases-loop-rest l = length l.rest
