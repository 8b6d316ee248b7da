use Rattle.std.proofs.Common.{ap, sym, ◌∙◌}
use Rattle.std.specs.Option.{is_some, option_copied}
use Rattle.mj_container.proofs.Stages.{delivery_there}
use Rattle.mj_step.proofs.Seen.{seen_there}
use Rattle.mj_step.proofs.staging.has_delivery.Goals as goal

pub returns : goal.returns
returns c =
    c.is_some.ensures
    ∙ sym (seen_there (λ delivery. (delivery.schedule.now, option_copied delivery.bounce_processor)) c.delivery.result)
    ∙ ap is_some c.delivery.ensures
    ∙ delivery_there c.args.name.now c.args.plan.now.processors
