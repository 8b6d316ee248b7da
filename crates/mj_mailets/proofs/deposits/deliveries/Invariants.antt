use Rattle.std.proofs.Common.{◌≡◌, ◌++◌, drop, map}
use Rattle.mj_container.specs.Serving.{delivered}
use Rattle.mj_mailets.proofs.deposits.deliveries.Given as goal

abbrev pub invariant-loop-r : goal.invariant-loop-r
invariant-loop-r l = l.facts.items ++ map (delivered l.mail) (drop l.r-index l.recipients) ≡ map (delivered l.mail) l.recipients
