use Rattle.mj_head.proofs.Changes.{head_few}
use Rattle.mj_head.proofs.head.Head.fields.Goals as goal

pub returns-clause-few : goal.returns-clause-few
returns-clause-few c = rw (← c.self.view_is) (head_few _ c.self.invariant.1)
