use Rattle.std.proofs.Common.{sym, subst}
use Rattle.mj_plan.specs.Sound.{is_processor, names_of}
use Rattle.mj_container.specs.Sound.{IsFit}
use Rattle.mj_container.proofs.Facts.{processor_passes}
use Rattle.mj_container.proofs.Fit.{sound_fit}
use Rattle.mj_step.proofs.stepping.visit.Goals as goal

pub run_processor-requires-clause-processor : goal.run_processor-requires-clause-processor
run_processor-requires-clause-processor c =
    let plan = c.args.plan.now in
    processor_passes (is_processor (names_of plan.processors)) c.as_slice.result.now plan.processors c.in-Some.processor.now (sym c.in-Some.ensures) c.requires.plan.processors

pub run_processor-requires-clause-fit : goal.run_processor-requires-clause-fit
run_processor-requires-clause-fit c = subst IsFit (sym c.in_ok-copy-in-Some.ensures) (sound_fit c.args.plan.now c.args.mail.now c.requires.mail)
