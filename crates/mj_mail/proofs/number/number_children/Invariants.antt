use Rattle.std.proofs.Common.{◌≡◌, length}
use Rattle.mj_mail.specs.Outcome.{numbered_from}
use Rattle.mj_mail.proofs.number.number_children.Given as goal

abbrev pub invariant-loop-child : goal.invariant-loop-child
invariant-loop-child l = record {
  count : l.number ≡ length l.yielded;
  numbered : l.numbered ≡ numbered_from 1 l.yielded;
}
