use Rattle.std.proofs.Common.{◌≡◌, length}
use Rattle.mj_head.specs.Head.{is_folded}
use Rattle.mj_head.proofs.read.is_raw_body.Given as goal

abbrev pub invariant-loop-byte : goal.invariant-loop-byte
invariant-loop-byte l = is_folded l.before l.rest ≡ is_folded 58 l.body

abbrev pub decreases-loop-byte : goal.decreases-loop-byte
decreases-loop-byte l = length l.rest
