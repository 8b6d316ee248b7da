use Rattle.std.proofs.Common.{◌≡◌, ◌+◌, drop, take, length}
use Rattle.mj_head.specs.Reading.{NoneIsNamed}
use Rattle.mj_head.proofs.fields.place_named.Given as goal

abbrev pub invariant-loop-field : goal.invariant-loop-field
invariant-loop-field l = (l.fields ≡ drop l.place l.initial.fields) × (l.place + length l.fields ≡ length l.initial.fields) × NoneIsNamed l.name (take l.place l.initial.fields)

abbrev pub decreases-loop-field : goal.decreases-loop-field
decreases-loop-field l = length l.fields
