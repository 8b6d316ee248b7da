use Rattle.std.proofs.Common.{◌≡◌, ◌+◌, length, take}
use Rattle.std.specs.List.{flat_map}
use Rattle.mj_mail.specs.Entry.{address_form}
use Rattle.mj_entry_len.specs.Stored.{stored}
use Rattle.mj_entry_len.proofs.parts.recipients_len.Given as goal

abbrev pub invariant-loop-address : goal.invariant-loop-address
invariant-loop-address l = l.total ≡ stored (4 + length (flat_map address_form (take l.address-index l.recipients)))
