-- What the files of a site say: its configuration, and its table of answers.
use Rattle.std.specs.Prelude.{ℕ, List, [], Option, Some, None, Result, Ok, Err}
use Rattle.mj_plan.specs.declared.plan.Plan.{Plan}
use Rattle.mj_answers.specs.declared.fault.AnswersFault.{AnswersFault}
use Rattle.mj_answers.specs.declared.row.Row.{Row}
use Rattle.mj_answers.specs.Reading.{answers_of}
use Rattle.mj_config_walk.specs.declared.fault.PlanFault.{PlanFault}
use Rattle.mj_config_walk.specs.declared.fault.PlanFault.TheVariants.{Refused}
use Rattle.mj_config_walk.specs.declared.fault.PlanKind.TheVariants.{NoFile}
use Rattle.mj_config_walk.specs.Walk.{plan}

-- the plan of a configuration file, or its fault
abbrev pub configuration : Option (List ℕ) → Result Plan PlanFault
configuration None = Err (Refused NoFile 0 0)
configuration (Some bytes) = plan bytes

-- the rows of a table of answers, or its fault; without the file there are none
abbrev pub table : Option (List ℕ) → Result (List Row) AnswersFault
table None = Ok []
table (Some bytes) = answers_of bytes

-- how many bytes are read of a configuration: one more than it may have
unfoldable pub plan_room : ℕ
plan_room = 1_048_577

-- and of a table of answers
unfoldable pub answers_room : ℕ
answers_room = 1_048_577
