use Rattle.std.proofs.Common.{◌≡◌, ◌++◌, drop, map}
use Rattle.mj_container.specs.Changes.{postmaster_alias}
use Rattle.mj_changes.proofs.recipients.aliased.Given as goal

abbrev pub invariant-loop-r : goal.invariant-loop-r
invariant-loop-r l = l.addresses.items ++ map (postmaster_alias l.plan) (drop l.r-index l.recipients) ≡ map (postmaster_alias l.plan) l.recipients
