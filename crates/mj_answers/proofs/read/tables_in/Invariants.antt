use Rattle.std.proofs.Common.{◌≡◌, drop, length, map}
use Rattle.toml.specs.View.{items_view, table_view}
use Rattle.mj_answers.specs.Reading.{tables_in}
use Rattle.mj_answers.proofs.InTurn.{ahead}
use Rattle.mj_answers.proofs.read.tables_in.Given as goal

abbrev pub invariant-loop-value : goal.invariant-loop-value
invariant-loop-value l = record {
  count : length l.tables.items ≡ l.value-index;
  exact : tables_in (items_view l.values) ≡ ahead (map (λ t. table_view t.now) l.tables.items) (tables_in (items_view (drop l.value-index l.values)));
}
