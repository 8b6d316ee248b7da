use Rattle.std.proofs.Common.{◌≡◌, drop}
use Rattle.mj_plan.specs.Lookups.{delivery_named}
use Rattle.mj_plan.proofs.plan.Plan.delivery.Given as goal

abbrev pub invariant-loop-processor : goal.invariant-loop-processor
invariant-loop-processor l = delivery_named l.name (drop l.processor-index l.processor-items) ≡ delivery_named l.name l.self.processors
