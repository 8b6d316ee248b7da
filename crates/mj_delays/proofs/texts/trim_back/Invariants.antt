use Rattle.std.proofs.Common.{◌≡◌, length}
use Rattle.mj_terms.specs.Text.{trim_back}
use Rattle.mj_delays.proofs.texts.trim_back.Given as goal

-- what is left trims to the same
abbrev pub invariant-loop-last : goal.invariant-loop-last
invariant-loop-last l = trim_back l.text ≡ trim_back l.fn.text

abbrev pub decreases-loop-last : goal.decreases-loop-last
decreases-loop-last l = length l.text
