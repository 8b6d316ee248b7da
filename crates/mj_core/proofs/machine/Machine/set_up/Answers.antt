use Rattle.mj_core.proofs.Members.{some_of}
use Rattle.mj_core.proofs.machine.Machine.set_up.Goals as goal

pub numbered-requires : goal.numbered-requires
numbered-requires g c =
    let rules = g.R.Rules in
    some_of rules g.R.Stages.is_allowed c.args.epochs.now c.args.self.now
    c.requires.is_of
