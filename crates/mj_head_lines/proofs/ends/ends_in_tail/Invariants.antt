use Rattle.std.proofs.Common.{◌≡◌, ◌+◌, ◌≤◌, length}
use Rattle.mj_head_lines.specs.Ends.{field_ends}
use Rattle.mj_head_lines.proofs.ends.ends_in_tail.Given as goal

abbrev pub invariant-loop-byte : goal.invariant-loop-byte
invariant-loop-byte l = record { counted : l.count + field_ends l.rest ≡ field_ends l.text; few : l.count + length l.rest ≤ length l.text }

abbrev pub decreases-loop-byte : goal.decreases-loop-byte
decreases-loop-byte l = length l.rest
