use Rattle.std.proofs.Common.{◌≡◌, ◌+◌, ◌^◌, ◌<◌, ◌++◌, drop, length, take}
use Rattle.std.specs.List.{AllByRecursion}
use Rattle.mj_match.specs.Composites.{with_truths}
use Rattle.mj_match.proofs.composites.count_truths.Given as goal

-- the counts so far are made higher, and the others are as they were
abbrev pub invariant-loop-k : goal.invariant-loop-k
invariant-loop-k l = record {
  rest : take l.k l.counts.items ++ with_truths (drop l.k l.counts.items) (drop l.k l.truths) ≡ with_truths l.initial.counts.items l.truths;
  beside : length l.truths ≡ length l.counts.items;
  small : AllByRecursion (λ count. count + 1 < 2 ^ 64) (drop l.k l.counts.items);
}
