use Rattle.std.proofs.Common.{◌≡◌, ◌+◌, ◌-◌, ◌/◌, ◌<◌, ◌≤◌, true, length, sym, ◌∙◌, arith}
use Rattle.std.proofs.lemmas.List.Edits.{swapped_from_swap, length-swap}
use Rattle.mj_ready.specs.Due.{is_before}
use Rattle.mj_ready.specs.Heap.{row_at}
use Rattle.mj_ready.proofs.Depths.{up_one, passed}
use Rattle.mj_ready.proofs.Ordered.{pairs_in_order, in_order-swap, tested}
use Rattle.mj_ready.proofs.Sifting.{RisesFrom-swap}
use Rattle.mj_ready.proofs.heap.rise.Goals as goal

pub returns-then-not-comes_before-clause-cost : goal.returns-then-not-comes_before-clause-cost
returns-then-not-comes_before-clause-cost g c =
    let (t, spent, low) = c.loop-at.invariant.cost in
    λ k bound.
    let one_more : t + 1 ≤ k = passed (t + 1) k _ _ (up_one t c.loop-at.at _ c.loop-at-test.true low) bound in
    omega (arith, c.read.ensures.cost)

pub loop-at-preserved : goal.loop-at-preserved
loop-at-preserved g c =
    let rows = c.loop-at.rows.rows in
    let at = c.loop-at.at in
    let above = (at - 1) / 2 in
    let some : 0 < at = c.loop-at-test.true in
    let within : at < length rows = c.loop-at.invariant.within in
    let above_within : above < length rows = omega arith in
    let moved = swapped_from_swap rows _ at above (0, 0) within above_within c.exchange.ensures.rows in
    let first : is_before (row_at rows at) (row_at rows above) ≡ true =
    tested _ _ _ _ _ c.loop-at.invariant.is_row (sym c.read.ensures.row) c.comes_before.ensures
    c.if-not-comes_before.false in
    let (t, spent, low) = c.loop-at.invariant.cost in
    record {
      within = rw c.exchange.ensures.rows (omega (arith, length-swap rows at above));
      is_row = moved.1 ∙ c.loop-at.invariant.is_row;
      heap = rw c.exchange.ensures.rows (RisesFrom-swap rows at above within (omega arith) (omega arith) first c.loop-at.invariant.heap);
      pairs =
          rw c.exchange.ensures.rows (in_order-swap is_before pairs_in_order rows at above within above_within ∙ c.loop-at.invariant.pairs);
      spare = c.exchange.ensures.spare ∙ c.loop-at.invariant.spare;
      cost = (t + 1, omega (arith, c.read.ensures.cost, c.exchange.ensures.cost), up_one t at _ some low);
    }

pub returns-clause-cost : goal.returns-clause-cost
returns-clause-cost g c =
    let (t, spent, low) = c.loop-at.invariant.cost in
    λ k bound. let few : t ≤ k = passed t k _ _ low bound in omega arith
