-- Where a mail may stand under a plan.
use Rattle.std.specs.Prelude.{Bool}
use Rattle.mj_container.specs.Sound.{names_delivery, names_processor}
use Rattle.mj_mail.specs.declared.mail.Stage.{Stage}
use Rattle.mj_mail.specs.declared.mail.Stage.TheVariants.{Process, Remote}
use Rattle.mj_plan.specs.declared.plan.Plan.{Plan}

-- the plan has the processor that the mail waits for, or the remote delivery by which it is sent
abbrev pub has_stage : Plan → Stage → Bool
has_stage plan (Process state) = names_processor plan state
has_stage plan (Remote delivery host attempt) = names_delivery plan delivery
