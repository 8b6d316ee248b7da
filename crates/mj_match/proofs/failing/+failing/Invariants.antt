use Rattle.std.proofs.Common.{◌≡◌, ◌+◌, ◌^◌, ◌<◌, drop, length}
use Rattle.std.specs.List.{flat_map}
use Rattle.mj_container.specs.Matching.{conditions_of}
use Rattle.mj_match.specs.Evaluated.{counted}
use Rattle.mj_match.proofs.failing.+failing.Given as goal

-- the conditions that are left decide
abbrev pub invariant-counted_in-loop-matcher : goal.invariant-counted_in-loop-matcher
invariant-counted_in-loop-matcher l = record {
  rest : counted l.mail l.count (flat_map conditions_of (drop l.matcher-index l.matchers)) ≡ counted l.mail l.fn.before (flat_map conditions_of l.matchers);
  few : l.count + length (flat_map conditions_of (drop l.matcher-index l.matchers)) < 2 ^ 32;
}
