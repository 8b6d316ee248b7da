use Rattle.std.proofs.Common.{◌≡◌, ◌++◌, take}
use Rattle.std.specs.List.{flat_map}
use Rattle.mj_mail.specs.Entry.{address_form}
use Rattle.mj_entry_write.proofs.parts.put_addresses.Given as goal

abbrev pub invariant-loop-address : goal.invariant-loop-address
invariant-loop-address l = l.out ≡ l.initial.out ++ flat_map address_form (take l.address-index l.addresses)
