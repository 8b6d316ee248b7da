use Rattle.std.proofs.Common.{◌≡◌, drop}
use Rattle.mj_lawful.specs.Machine.{is_claimed}
use Rattle.mj_core_lists.proofs.claim.has_claim.Given as goal

abbrev pub invariant-loop-claim : goal.invariant-loop-claim
invariant-loop-claim l = is_claimed (drop l.claim-index l.claims) l.name ≡ is_claimed l.claims l.name
