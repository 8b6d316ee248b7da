-- A refusal with its place.
use Rattle.std.specs.Prelude.{ℕ}
use Rattle.mj_config_walk.specs.declared.fault.PlanFault.{PlanFault}
use Rattle.mj_config_walk.specs.declared.fault.PlanFault.TheVariants as fault
use Rattle.mj_config_walk.specs.declared.fault.Refusal.{Refusal}
use Rattle.mj_config_walk.specs.declared.fault.Refusal.TheVariants as refusal

abbrev pub fault_at : Refusal → ℕ → ℕ → PlanFault
fault_at (refusal.Kind kind) processor step = fault.Refused kind processor step
fault_at refusal.Memory processor step = fault.Memory
