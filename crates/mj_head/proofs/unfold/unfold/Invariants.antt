use Rattle.std.proofs.Common.{◌≡◌, ◌++◌, length}
use Rattle.mj_terms.specs.Text.{trim_front}
use Rattle.mj_head.specs.Fields.{without_crlf}
use Rattle.mj_head.proofs.unfold.unfold.Given as goal

abbrev pub invariant-loop-line : goal.invariant-loop-line
invariant-loop-line l = (trim_front (l.text.items ++ without_crlf l.rest) ≡ trim_front (without_crlf l.body)) × (trim_front l.text.items ≡ l.text.items)

abbrev pub decreases-loop-line : goal.decreases-loop-line
decreases-loop-line l = length l.rest
