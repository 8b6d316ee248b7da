use Rattle.std.proofs.Common.{◌≡◌, length}
use Rattle.mj_terms.specs.Text.{trim_front}
use Rattle.mj_delays.proofs.texts.trim_front.Given as goal

-- what is left trims to the same
abbrev pub invariant-loop-first : goal.invariant-loop-first
invariant-loop-first l = trim_front l.text ≡ trim_front l.fn.text

abbrev pub decreases-loop-first : goal.decreases-loop-first
decreases-loop-first l = length l.text
