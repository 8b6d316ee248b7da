use Rattle.std.proofs.Common.{◌≡◌, take}
use Rattle.mj_address.proofs.recipients.copied.Given as goal

-- the first of the addresses were copied
abbrev pub invariant-loop-address : goal.invariant-loop-address
invariant-loop-address l = l.copies.items ≡ take l.address-index l.addresses
