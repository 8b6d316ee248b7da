use Rattle.std.proofs.Common.{◌≡◌, ◌++◌, length}
use Rattle.std.specs.Iterator.Adapters.{zip_first, zip_second}
use Rattle.std.specs.List.{zip}
use Rattle.std.specs.Vec.Iter.{into_iter_items, into_iter_len}
use Rattle.mj_groups.proofs.groups.beside.Given as goal

-- what was put beside each other, and what is to come
abbrev pub invariant-loop-key : goal.invariant-loop-key
invariant-loop-key g l = record {
  len : into_iter_len (zip_second l.key-iterator) ≡ length (into_iter_items (zip_second l.key-iterator));
  paired : l.groups.items ++ zip (zip_first l.key-iterator) (into_iter_items (zip_second l.key-iterator)) ≡ zip l.fn.keys.keys l.fn.lists.items;
}
