use Rattle.std.proofs.Common.{◌≡◌, ◌++◌, drop}
use Rattle.mj_changes.proofs.recipients.different.Given as goal

abbrev pub invariant-loop-address : goal.invariant-loop-address
invariant-loop-address l = l.copies.items ++ drop l.address-index l.addresses ≡ l.addresses
