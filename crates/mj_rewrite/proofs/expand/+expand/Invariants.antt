use Rattle.std.proofs.Common.{◌≡◌, ◌+◌, ◌*◌, drop}
use Rattle.mj_container.specs.Expansion.{expand, targets}
use Rattle.mj_rewrite.proofs.expand.+expand.Given as goal

-- the targets that are left, behind what was found so far, give what all give
abbrev pub invariant-expand_targets-loop-target : goal.invariant-expand_targets-loop-target
invariant-expand_targets-loop-target l =
    targets (expand l.plan.mappings l.rounds) l.address (drop l.target-index l.to) l.found ≡ targets (expand l.plan.mappings l.rounds) l.address l.to l.initial.found

-- each mapping that is followed takes a round, and the calls for it go down
abbrev pub decreases-expand : goal.decreases-expand
decreases-expand l = 4 * l.rounds

abbrev pub decreases-follow : goal.decreases-follow
decreases-follow l = 4 * l.rounds + 3

abbrev pub decreases-expand_targets : goal.decreases-expand_targets
decreases-expand_targets l = 4 * l.rounds + 2

abbrev pub decreases-expand_target : goal.decreases-expand_target
decreases-expand_target l = 4 * l.rounds + 1
