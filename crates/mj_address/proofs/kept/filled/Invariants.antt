use Rattle.std.proofs.Common.{◌≡◌, ◌≤◌, ◌++◌}
use Rattle.std.specs.Vec.Iter.{into_iter_items, into_iter_len}
use Rattle.indexmap.specs.IndexSet.{spare}
use Rattle.mj_address.proofs.kept.filled.Given as goal

-- the set and what is left are the list, and there is room for what is left
abbrev pub invariant-loop-address : goal.invariant-loop-address
invariant-loop-address l = record {
  all : l.set.keys ++ into_iter_items l.address-iterator ≡ l.fn.list.items;
  room : into_iter_len l.address-iterator ≤ spare l.set;
}
