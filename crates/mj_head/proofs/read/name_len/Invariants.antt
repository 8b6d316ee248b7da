use Rattle.std.proofs.Common.{◌≡◌, ◌≤◌, ◌-◌, true, take, length}
use Rattle.std.specs.List.{list_all}
use Rattle.mj_head.specs.Head.{is_name_byte}
use Rattle.mj_head.proofs.read.name_len.Given as goal

abbrev pub invariant-loop-len : goal.invariant-loop-len
invariant-loop-len l = (l.len ≤ length l.line) × (list_all is_name_byte (take l.len l.line) ≡ true)

abbrev pub decreases-loop-len : goal.decreases-loop-len
decreases-loop-len l = length l.line - l.len
