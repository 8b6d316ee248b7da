use Rattle.std.proofs.Common.{◌≡◌, ◌++◌, drop, if◌then◌else◌}
use Rattle.mj_lawful.specs.Machine.{with_attempt}
use Rattle.mj_core_lists.proofs.claim.claims_with_attempt.Given as goal

abbrev pub invariant-loop-claim : goal.invariant-loop-claim
invariant-loop-claim l = l.copies ++ (if l.passed then drop l.claim-index l.claims else with_attempt (drop l.claim-index l.claims) l.worker) ≡ with_attempt l.claims l.worker
