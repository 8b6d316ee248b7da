use Rattle.std.proofs.Common.{◌≡◌, ◌++◌, drop}
use Rattle.mj_container.specs.Notices.{failures}
use Rattle.mj_mailets.proofs.notices.failures.Given as goal

-- the failures so far, and those of the recipients that are left
abbrev pub invariant-loop-r : goal.invariant-loop-r
invariant-loop-r l = l.failed.items ++ failures l.message (drop l.r-index l.recipients) ≡ failures l.message l.recipients
