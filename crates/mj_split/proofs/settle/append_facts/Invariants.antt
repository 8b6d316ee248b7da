use Rattle.std.proofs.Common.{◌≡◌, ◌++◌}
use Rattle.mj_split.proofs.settle.append_facts.Given as goal

abbrev pub invariant-loop-fact : goal.invariant-loop-fact
invariant-loop-fact l = l.out ≡ l.initial.out ++ l.yielded
