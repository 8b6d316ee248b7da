use Rattle.std.proofs.Common.{◌≡◌, drop}
use Rattle.mj_container.specs.Expansion.{rewritten, rewritten_behind}
use Rattle.mj_rewrite.proofs.addresses.rewrite.Given as goal

-- the recipients that are left, behind those so far, become what all become
abbrev pub invariant-loop-recipient : goal.invariant-loop-recipient
invariant-loop-recipient l = rewritten_behind l.plan.mappings l.found (drop l.recipient-index l.recipient-items) ≡ rewritten l.plan.mappings l.recipients
