use Rattle.std.proofs.Common.{◌≡◌, sym, ap, ◌∙◌}
use Rattle.std.specs.List.{list_all}
use Rattle.mj_lawful.specs.Entries.{pending}
use Rattle.mj_lawful.proofs.Follow.{pending_allowed}
use Rattle.mj_core.specs.Held.{Held}
use Rattle.mj_core.specs.Epochs.{meanings}
use Rattle.mj_core.proofs.Members.{follow_of_list, laws_of_list}
use Rattle.mj_core.proofs.machine.Machine.may_go_on.Goals as goal

pub returns : goal.returns
returns g c =
    let rules = g.R.Rules in
    let owed = g.met.R.Rules in
    let allowed = g.R.Stages.is_allowed in
    let follow = g.met.R.Stages in
    let list = c.args.epochs.now in
    let r = meanings rules allowed list in
    let laws = laws_of_list rules allowed owed.first_named owed.first_sound owed.children_named owed.children_sound owed.falls list in
    let follows = follow_of_list rules allowed follow.sound_allowed follow.allowed_sound list in
    let entries = c.args.self.now.machine.entries in
    let waiting : c.as_slice.result.now ≡ pending r entries = c.as_slice.ensures ∙ (ap (λ (held : Held). held.waiting) c.self.view_is ∙ c.requires.is_of.waiting) in
    c.all_allowed.ensures
    ∙ ((λ i. list_all (sym c.numbered.ensures.allows i) (waiting i))
    ∙ pending_allowed r laws follows entries c.requires.is_of.lawful c.args.number)
