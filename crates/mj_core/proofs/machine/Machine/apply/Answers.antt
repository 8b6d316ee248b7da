use Rattle.mj_core.specs.Events.{event_of}
use Rattle.mj_core.specs.Epochs.{meanings}
use Rattle.mj_core.proofs.Afterwards.{of_after}
use Rattle.mj_core.proofs.machine.Machine.apply.Goals as goal

pub returns-clause-is_of : goal.returns-clause-is_of
returns-clause-is_of g c =
    let rules = g.R.Rules in
    let r = meanings rules g.R.Stages.is_allowed c.args.epochs.now in
    of_after r c.args.self.now c.change.new.self (event_of c.args.event.now) c.requires.is_of c.requires.enabled
    c.in_ok-change.ensures.machine c.in_ok-change.ensures.waiting
