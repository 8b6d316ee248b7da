use Rattle.std.proofs.Common.{ap, sym, ◌∙◌}
use Rattle.std.specs.Option.{is_some}
use Rattle.mj_container.proofs.Stages.{processor_there}
use Rattle.mj_step.proofs.Seen.{seen_there}
use Rattle.mj_step.proofs.staging.has_processor.Goals as goal

pub returns : goal.returns
returns c =
    c.is_some.ensures
    ∙ sym (seen_there (λ processor. processor.now) c.processor.result)
    ∙ ap is_some c.processor.ensures
    ∙ processor_there c.args.name.now c.args.plan.now.processors
