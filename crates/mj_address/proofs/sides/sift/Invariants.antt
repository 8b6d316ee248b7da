use Rattle.std.proofs.Common.{◌≡◌, ◌++◌, length}
use Rattle.std.specs.Iterator.Adapters.{zip_first, zip_second}
use Rattle.std.specs.Slice.Iter.{iter_rest}
use Rattle.std.specs.Vec.Iter.{into_iter_items, into_iter_len}
use Rattle.mj_address.specs.Masks.{taken, left}
use Rattle.mj_address.proofs.sides.sift.Given as goal

-- what was put on each side, and what is to come there
abbrev pub invariant-loop-is_taken : goal.invariant-loop-is_taken
invariant-loop-is_taken l = record {
  same : length (iter_rest (zip_first l.is_taken-iterator)) ≡ into_iter_len (zip_second l.is_taken-iterator);
  on_taken : l.sides.taken.items ++ taken (iter_rest (zip_first l.is_taken-iterator)) (into_iter_items (zip_second l.is_taken-iterator)) ≡ taken l.mask l.fn.list.items;
  on_left : l.sides.left.items ++ left (iter_rest (zip_first l.is_taken-iterator)) (into_iter_items (zip_second l.is_taken-iterator)) ≡ left l.mask l.fn.list.items;
}
