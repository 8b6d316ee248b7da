-- Faults with their places.
use Rattle.std.specs.Prelude.{ℕ}
use Rattle.mj_answers.specs.declared.fault.AnswersFault.{AnswersFault}
use Rattle.mj_answers.specs.declared.fault.AnswersFault.TheVariants as fault
use Rattle.mj_answers.specs.declared.fault.Refusal.{Refusal}
use Rattle.mj_answers.specs.declared.fault.Refusal.TheVariants as refusal

-- the fault in the row of this number
abbrev pub fault_at : Refusal → ℕ → AnswersFault
fault_at (refusal.Kind kind) row = fault.Refused kind row
fault_at refusal.Memory row = fault.Memory
