use Rattle.mj_core.proofs.Members.{alone}
use Rattle.mj_core.proofs.laws.one_configuration_means_as_its_rules.Goals as goal

pub returns : goal.returns
returns g c =
    let rules = g.R.Rules in
    alone rules g.R.Stages.is_allowed c.args.epoch.now
