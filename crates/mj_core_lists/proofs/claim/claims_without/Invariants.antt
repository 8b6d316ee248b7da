use Rattle.std.proofs.Common.{◌≡◌, ◌++◌, drop, if◌then◌else◌}
use Rattle.mj_lawful.specs.Machine.{without_claim}
use Rattle.mj_core_lists.proofs.claim.claims_without.Given as goal

abbrev pub invariant-loop-claim : goal.invariant-loop-claim
invariant-loop-claim l = l.others ++ (if l.passed then drop l.claim-index l.claims else without_claim (drop l.claim-index l.claims) l.worker) ≡ without_claim l.claims l.worker
