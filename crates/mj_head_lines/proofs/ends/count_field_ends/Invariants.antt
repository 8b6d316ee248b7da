use Rattle.std.proofs.Common.{◌≡◌, ◌+◌, length}
use Rattle.mj_head_lines.specs.Ends.{field_ends}
use Rattle.mj_head_lines.proofs.ends.count_field_ends.Given as goal

abbrev pub invariant-loop-rest : goal.invariant-loop-rest
invariant-loop-rest l = l.count + field_ends l.rest ≡ field_ends l.text

abbrev pub decreases-loop-rest : goal.decreases-loop-rest
decreases-loop-rest l = length l.rest
