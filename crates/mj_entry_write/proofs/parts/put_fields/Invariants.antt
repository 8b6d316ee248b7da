use Rattle.std.proofs.Common.{◌≡◌, ◌++◌, ◌≤◌, length}
use Rattle.std.specs.List.{flat_map}
use Rattle.mj_mail.specs.declared.limits.TheConstants.{MAX_PAYLOAD}
use Rattle.mj_mail.specs.Entry.{pair_form}
use Rattle.mj_entry_write.proofs.parts.put_fields.Given as goal

abbrev pub invariant-loop-field : goal.invariant-loop-field
invariant-loop-field l =
    (l.out ++ flat_map pair_form l.field-iterator ≡ l.initial.out ++ flat_map pair_form l.fn.fields)
    × (length (flat_map pair_form l.field-iterator) ≤ MAX_PAYLOAD)
