use Rattle.std.proofs.Common.{◌≡◌, ◌∙◌, ◌++◌, [], append-nil, sym, ap, inl, inr, arith}
use Rattle.std.specs.Iterator.Adapters.{zip_first, zip_second}
use Rattle.std.specs.List.{zip}
use Rattle.std.specs.Vec.Iter.{into_iter_items}
use Rattle.mj_groups.proofs.Members.{zip_none_right}
use Rattle.mj_groups.proofs.groups.beside.Goals as goal

pub returns : goal.returns
returns g c =
    let none : zip (zip_first c.loop-key.key-iterator) (into_iter_items (zip_second c.loop-key.key-iterator)) ≡ [] =
    elim c.in-None.ensures.steps [
      | inl w ↦ ap (λ keys. zip keys (into_iter_items (zip_second c.loop-key.key-iterator))) w.1.0
      | inr w ↦ zip_none_right (zip_first c.loop-key.key-iterator) (into_iter_items (zip_second c.loop-key.key-iterator)) (omega (arith, w.1.0, c.loop-key.invariant.len))
    ] in
    sym (append-nil c.loop-key.groups.items) ∙ ap (λ rest. c.loop-key.groups.items ++ rest) (sym none) ∙ c.loop-key.invariant.paired
