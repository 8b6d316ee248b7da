use Rattle.std.proofs.Common.{◌≡◌, drop}
use Rattle.mj_head.proofs.fields.fields_from.Given as goal

abbrev pub invariant-loop : goal.invariant-loop
invariant-loop l = l.fields ≡ drop l.counter l.initial.fields
