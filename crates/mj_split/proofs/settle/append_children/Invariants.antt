use Rattle.std.proofs.Common.{◌≡◌, ◌++◌}
use Rattle.mj_split.proofs.settle.append_children.Given as goal

abbrev pub invariant-loop-child : goal.invariant-loop-child
invariant-loop-child l = l.out ≡ l.initial.out ++ l.yielded
