use Rattle.std.proofs.Common.{length}
use Rattle.mj_head.proofs.Whole.{ReadSoFar}
use Rattle.mj_head.proofs.read.read_text.Given as goal

abbrev pub invariant-loop-text : goal.invariant-loop-text
invariant-loop-text l = ReadSoFar l.bytes l.text.items l.cursor

abbrev pub decreases-loop-text : goal.decreases-loop-text
decreases-loop-text l = length l.cursor.rest.now
