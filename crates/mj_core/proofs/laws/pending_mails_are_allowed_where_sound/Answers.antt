use Rattle.mj_lawful.proofs.Follow.{pending_allowed}
use Rattle.mj_core.specs.Epochs.{meanings}
use Rattle.mj_core.proofs.Members.{follow_of_list, laws_of_list}
use Rattle.mj_core.proofs.laws.pending_mails_are_allowed_where_sound.Goals as goal

pub returns : goal.returns
returns g c =
    let rules = g.R.Rules in
    let owed = g.met.R.Rules in
    let allowed = g.R.Stages.is_allowed in
    let list = c.args.epochs.now in
    let r = meanings rules allowed list in
    let laws = laws_of_list rules allowed owed.first_named owed.first_sound owed.children_named owed.children_sound owed.falls list in
    let follow = g.met.R.Stages in
    let follows = follow_of_list rules allowed follow.sound_allowed follow.allowed_sound list in
    λ entries number lawful. pending_allowed r laws follows entries lawful number
