use Rattle.std.proofs.Common.{map}
use Rattle.mj_lawful.proofs.Counts.{true_after}
use Rattle.mj_core.specs.Epochs.{first_plan, meanings}
use Rattle.mj_core.specs.Events.{event_of}
use Rattle.mj_core.proofs.Members.{laws_of_list, plan_first}
use Rattle.mj_core.proofs.run.run_events.Goals as goal

pub returns-clause-true_after : goal.returns-clause-true_after
returns-clause-true_after g c =
    let rules = g.R.Rules in
    let owed = g.met.R.Rules in
    let allowed = g.R.Stages.is_allowed in
    let list = c.args.epochs.now in
    let r = meanings rules allowed list in
    let laws = laws_of_list rules allowed owed.first_named owed.first_sound owed.children_named owed.children_sound owed.falls list in
    true_after r laws (first_plan list)
    (plan_first rules allowed list c.requires) (map event_of c.args.events.now)
