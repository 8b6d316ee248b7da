use Rattle.std.proofs.Common.{◌≡◌, map}
use Rattle.mj_groups.specs.Groups.{different, having}
use Rattle.mj_groups.proofs.groups.grouped.Given as goal

abbrev pub invariant-loop-key : goal.invariant-loop-key
invariant-loop-key g l = record {
  keys : l.keys.keys ≡ different g.K.PartialEq.eq (map (λ pair. pair.0) l.yielded);
  items : map (λ list. list.items) l.lists.items ≡ map (λ key. having g.K.PartialEq.eq key l.yielded) l.keys.keys;
}
