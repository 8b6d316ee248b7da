use Rattle.std.proofs.Common.{◌≡◌, length, inl, inr, arith}
use Rattle.std.specs.Iterator.Adapters.{zip_first}
use Rattle.std.specs.Slice.Iter.{iter_rest}
use Rattle.mj_address.proofs.Masks.{taken_end, left_end}
use Rattle.mj_address.proofs.sides.sift.Goals as goal

pub returns-clause-taken : goal.returns-clause-taken
returns-clause-taken c =
    let none : length (iter_rest (zip_first c.loop-is_taken.is_taken-iterator)) ≡ 0 = elim c.in-None.ensures.steps [ inl w ↦ omega (arith, w.1) | inr w ↦ omega (arith, w.1) ] in
    taken_end _ _ _ _ none c.loop-is_taken.invariant.on_taken

pub returns-clause-left : goal.returns-clause-left
returns-clause-left c =
    let none : length (iter_rest (zip_first c.loop-is_taken.is_taken-iterator)) ≡ 0 = elim c.in-None.ensures.steps [ inl w ↦ omega (arith, w.1) | inr w ↦ omega (arith, w.1) ] in
    left_end _ _ _ _ none c.loop-is_taken.invariant.on_left
