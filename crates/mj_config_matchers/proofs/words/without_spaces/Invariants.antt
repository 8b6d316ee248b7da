use Rattle.std.proofs.Common.{◌≡◌, length}
use Rattle.mj_config_walk.specs.Arguments.{words}
use Rattle.mj_config_matchers.proofs.words.without_spaces.Given as goal

-- what is left has the same words
abbrev pub invariant-loop-first : goal.invariant-loop-first
invariant-loop-first l = words l.text ≡ words l.fn.text

abbrev pub decreases-loop-first : goal.decreases-loop-first
decreases-loop-first l = length l.text
