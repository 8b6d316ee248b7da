use Rattle.std.proofs.Common.{◌≡◌, ◌++◌}
use Rattle.mj_address.proofs.kept.unhashed.Given as goal

-- the list and what is left are the set
abbrev pub invariant-loop-address : goal.invariant-loop-address
invariant-loop-address l = l.list.items ++ l.address-iterator ≡ l.fn.set.keys
