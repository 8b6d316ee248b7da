use Rattle.mj_address.proofs.Masks.{recipients_taken, recipients_left}
use Rattle.mj_address.proofs.recipients.Recipients.split.Goals as goal

pub invariant_of-result : goal.invariant_of-result
invariant_of-result c = rw (c.in_ok-sides.ensures.taken, c.in_ok-into_list.ensures) (recipients_taken c.args.mask.now _ c.self.invariant)

pub invariant_of-result-2 : goal.invariant_of-result-2
invariant_of-result-2 c = rw (c.in_ok-sides.ensures.left, c.in_ok-into_list.ensures) (recipients_left c.args.mask.now _ c.self.invariant)
