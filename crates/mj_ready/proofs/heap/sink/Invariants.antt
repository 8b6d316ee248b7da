use Rattle.std.proofs.Common.{◌≡◌, ℕ, ◌+◌, ◌-◌, ◌*◌, ◌^◌, ◌<◌, ◌≤◌, length}
use Rattle.mj_ready.specs.Due.{is_before}
use Rattle.mj_ready.specs.Heap.{row_at, in_order, SinksFrom}
use Rattle.mj_ready.proofs.heap.sink.Given as goal

abbrev pub invariant-loop-at : goal.invariant-loop-at
invariant-loop-at g l = record {
  size : length l.rows.rows ≡ l.len;
  within : l.at < l.len;
  is_row : row_at l.rows.rows l.at ≡ l.row;
  heap : SinksFrom l.rows.rows l.at;
  pairs : in_order is_before l.rows.rows ≡ in_order is_before l.initial.rows.rows;
  spare : l.rows.spare ≡ l.initial.rows.spare;
  cost : (t : ℕ) × (l.steps ≤ l.initial.steps + 3 * t) × (2 ^ t ≤ l.at + 1);
}

abbrev pub decreases-loop-at : goal.decreases-loop-at
decreases-loop-at g l = l.len - l.at
