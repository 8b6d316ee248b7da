use Rattle.std.proofs.Common.{◌≡◌, ◌+◌, [], drop, length, map}
use Rattle.toml.specs.View.{table_view}
use Rattle.mj_config.specs.Seen.{header_seen}
use Rattle.mj_config_walk.specs.Walk.{headers_from, names_of}
use Rattle.mj_config_walk.proofs.Ahead.{ahead}
use Rattle.mj_config.proofs.processors.headers.Given as goal

abbrev pub invariant-loop-table : goal.invariant-loop-table
invariant-loop-table l = record {
  count : length l.headers.items ≡ l.table-index;
  names : l.names ≡ names_of (map header_seen l.headers.items);
  exact : headers_from 1 [] (map (λ t. table_view t.now) l.tables)
      ≡ ahead (map header_seen l.headers.items) (headers_from (l.table-index + 1) l.names (map (λ t. table_view t.now) (drop l.table-index l.tables)));
}
