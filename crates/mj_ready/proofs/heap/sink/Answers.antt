use Rattle.std.proofs.Common.{◌≡◌, ◌+◌, ◌<◌, ◌≤◌, true, length, sym, ◌∙◌, arith}
use Rattle.std.proofs.lemmas.List.Edits.{swapped_from_swap, length-swap}
use Rattle.mj_ready.specs.Due.{is_before}
use Rattle.mj_ready.specs.Heap.{row_at}
use Rattle.mj_ready.proofs.Depths.{down_one, levels}
use Rattle.mj_ready.proofs.Ordered.{pairs_in_order, in_order-swap, tested}
use Rattle.mj_ready.proofs.Sifting.{SinksFrom-swap}
use Rattle.mj_ready.proofs.heap.sink.Goals as goal

pub returns-then-not-comes_before-clause-cost : goal.returns-then-not-comes_before-clause-cost
returns-then-not-comes_before-clause-cost g c =
    let (t, spent, low) = c.loop-at.invariant.cost in
    let below = c.first_below-below.result.0 in
    let place = c.first_below-below.ensures.place in
    λ k bound.
    let one_more : t + 1 ≤ k =
    levels (t + 1) k (length c.args.rows.now.rows)
    (omega (arith, down_one t c.loop-at.at below low place.0, c.len-len.ensures)) bound in
    omega (arith, c.first_below-below.ensures.cost)

pub loop-at-preserved : goal.loop-at-preserved
loop-at-preserved g c =
    let rows = c.loop-at.rows.rows in
    let at = c.loop-at.at in
    let below = c.first_below-below.result.0 in
    let place = c.first_below-below.ensures.place in
    let within : below < length rows = place.2 in
    let at_within : at < length rows = omega arith in
    let moved = swapped_from_swap rows _ at below (0, 0) at_within within c.exchange.ensures.rows in
    let first : is_before (row_at rows below) (row_at rows at) ≡ true =
    tested _ _ _ _ _ (sym c.first_below-below.ensures.row) c.loop-at.invariant.is_row c.comes_before.ensures
    c.if-not-comes_before.false in
    let (t, spent, low) = c.loop-at.invariant.cost in
    record {
      size = rw c.exchange.ensures.rows (length-swap rows at below ∙ c.loop-at.invariant.size);
      within = omega (arith, c.loop-at.invariant.size);
      is_row = moved.1 ∙ c.loop-at.invariant.is_row;
      heap =
          rw c.exchange.ensures.rows
          (SinksFrom-swap rows at below place.0 place.1 within first c.first_below-below.ensures.first c.loop-at.invariant.heap);
      pairs =
          rw c.exchange.ensures.rows (in_order-swap is_before pairs_in_order rows at below at_within within ∙ c.loop-at.invariant.pairs);
      spare = c.exchange.ensures.spare ∙ c.loop-at.invariant.spare;
      cost = (t + 1, omega (arith, c.first_below-below.ensures.cost, c.exchange.ensures.cost), down_one t at below low place.0);
    }

pub returns-clause-cost : goal.returns-clause-cost
returns-clause-cost g c =
    let (t, spent, low) = c.loop-at.invariant.cost in
    λ k bound.
    let few : t ≤ k = levels t k (length c.args.rows.now.rows) (omega (arith, c.len-len.ensures)) bound in
    omega arith
