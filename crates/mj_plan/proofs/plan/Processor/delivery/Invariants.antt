use Rattle.std.proofs.Common.{◌≡◌, drop}
use Rattle.mj_plan.specs.Lookups.{delivery_in}
use Rattle.mj_plan.proofs.plan.Processor.delivery.Given as goal

abbrev pub invariant-loop-step : goal.invariant-loop-step
invariant-loop-step l = delivery_in l.name (drop l.step-index l.step-items) ≡ delivery_in l.name l.self.steps
