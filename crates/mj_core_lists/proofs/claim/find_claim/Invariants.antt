use Rattle.std.proofs.Common.{◌≡◌, drop}
use Rattle.mj_lawful.specs.Machine.{claim_of}
use Rattle.mj_core_lists.proofs.claim.find_claim.Given as goal

abbrev pub invariant-loop-claim : goal.invariant-loop-claim
invariant-loop-claim l = claim_of (drop l.claim-index l.claims) l.worker ≡ claim_of l.claims l.worker
