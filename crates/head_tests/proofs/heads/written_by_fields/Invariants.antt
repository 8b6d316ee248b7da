use Rattle.std.proofs.Common.{◌≡◌, ◌++◌}
use Rattle.mj_head.specs.Head.{written}
use Rattle.head_tests.proofs.heads.written_by_fields.Given as goal

-- what is written so far, and the fields that are left, are the whole head
abbrev pub invariant-loop-field : goal.invariant-loop-field
invariant-loop-field l = l.text.items ++ written l.field-iterator ≡ written l.head
