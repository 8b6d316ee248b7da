use Rattle.mj_disk.proofs.Taping.{taped_cut}
use Rattle.mj_disk.proofs.tape.Tape.cut.Goals as goal

pub invariant_of-self-2 : goal.invariant_of-self-2
invariant_of-self-2 c =
    taped_cut _ _ _ _ _ _ c.self.invariant c.args.size _ _ _ c.in_ok-push.ensures.items c.truncate.ensures.items c.min-self-inside.ensures
