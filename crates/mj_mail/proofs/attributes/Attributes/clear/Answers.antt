use Rattle.std.proofs.Common.{arith}
use Rattle.std.specs.List.Sorted.{IsStrictlySortedBy}
use Rattle.mj_mail.proofs.attributes.Attributes.clear.Goals as goal

pub invariant_of-self : goal.invariant_of-self
unfolding IsStrictlySortedBy
invariant_of-self c = rw c.clear.ensures.items (record { ascending = tt; few = omega arith })
