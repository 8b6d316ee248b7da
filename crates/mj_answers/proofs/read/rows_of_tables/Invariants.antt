use Rattle.std.proofs.Common.{◌≡◌, ◌+◌, true, drop, length, map}
use Rattle.std.specs.List.{list_all}
use Rattle.toml.specs.View.{table_view}
use Rattle.mj_answers.specs.Places.{has_reply}
use Rattle.mj_answers.specs.Reading.{rows_from}
use Rattle.mj_answers.proofs.InTurn.{ahead}
use Rattle.mj_answers.proofs.read.rows_of_tables.Given as goal

abbrev pub invariant-loop-table : goal.invariant-loop-table
invariant-loop-table l = record {
  count : length l.rows ≡ l.table-index;
  formed : list_all has_reply l.rows ≡ true;
  exact : rows_from 1 (map (λ t. table_view t.now) l.tables)
      ≡ ahead l.rows (rows_from (l.table-index + 1) (map (λ t. table_view t.now) (drop l.table-index l.tables)));
}
