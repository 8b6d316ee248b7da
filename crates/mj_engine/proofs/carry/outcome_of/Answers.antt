use Rattle.std.proofs.Common.{◌∙◌, ap, sym}
use Rattle.mj_mail.proofs.Trees.{step_is}
use Rattle.mj_engine.proofs.carry.outcome_of.Goals as goal

pub returns : goal.returns
returns g c =
    let rules = c.args.rules.now in
    let mail = c.args.mail.now in
    c.in_ok-outcome.ensures
    ∙ ap (g.R.Rules.outcome_of rules mail) c.in_ok-replies.ensures
    ∙ sym (step_is g.R.Rules.measure g.R.Rules.is_sound g.R.Rules.reply_of g.R.Rules.outcome_of rules (g.met.R.Rules.falls rules) mail c.requires)
