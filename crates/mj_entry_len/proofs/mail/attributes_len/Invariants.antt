use Rattle.std.proofs.Common.{◌≡◌, ◌+◌, length, take}
use Rattle.std.specs.List.{flat_map}
use Rattle.mj_mail.specs.Entry.{pair_form}
use Rattle.mj_entry_len.specs.Stored.{stored}
use Rattle.mj_entry_len.proofs.mail.attributes_len.Given as goal

abbrev pub invariant-loop-name : goal.invariant-loop-name
invariant-loop-name l = l.total ≡ stored (4 + length (flat_map pair_form (take l.name-index l.attributes)))
