use Rattle.std.proofs.Common.{◌≡◌}
use Rattle.std.specs.List.{find}
use Rattle.mj_head.specs.Fields.{is_named}
use Rattle.mj_head.proofs.fields.first_named.Given as goal

abbrev pub invariant-loop-field : goal.invariant-loop-field
invariant-loop-field l = find (is_named l.name) l.field-iterator ≡ find (is_named l.name) l.fn.fields
