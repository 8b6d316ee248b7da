use Rattle.std.proofs.Common.{◌≡◌, ◌+◌, ◌≤◌, length}
use Rattle.mj_head.specs.Reading.{field_len}
use Rattle.mj_head.proofs.walk.field_len.Given as goal

abbrev pub invariant-loop-end : goal.invariant-loop-end
invariant-loop-end l = (field_len l.text + length l.rest ≡ length l.text + field_len l.rest) × (length l.rest ≤ length l.text)

abbrev pub decreases-loop-end : goal.decreases-loop-end
decreases-loop-end l = length l.rest
