use Rattle.std.proofs.Common.{arith, ap, length, map, ◌+◌, ◌∷◌, [], ◌∙◌}
use Rattle.std.proofs.lemmas.List.{length_push, map-append}
use Rattle.toml.specs.View.{table_view}
use Rattle.mj_config.specs.Seen.{header_seen}
use Rattle.mj_config.proofs.Turns.{header_next, names_more}
use Rattle.mj_config.proofs.processors.headers.Goals as goal

pub loop-table-preserved : goal.loop-table-preserved
loop-table-preserved c =
    let so_far = c.loop-table.invariant in
    let read = c.in_ok-header_at.ensures in
    let header = c.in_ok-header_at.field-0 in
    let pushed = c.in_ok-push.ensures.items in
    let grown = ap (map header_seen) pushed ∙ map-append header_seen c.loop-table.headers.items (header ∷ []) in
    record {
      count = ap length pushed ∙ length_push c.loop-table.headers.items header ∙ ap (λ n. n + 1) so_far.count;
      names = names_more c.loop-table.names c.header_at.new.names (map header_seen c.loop-table.headers.items) (map header_seen c.push.new.self.items) (header_seen header)
          so_far.names read.names grown;
      exact = so_far.exact
          ∙ header_next (λ t. table_view t.now) c.loop-table.names c.header_at.new.names c.args.tables.now c.loop-table.table-index (c.len.result + 1)
          c.table-item.result (map header_seen c.loop-table.headers.items) (map header_seen c.push.new.self.items) (header_seen header) c.loop-table-test.true c.table-item.is
          (omega (arith, c.len.ensures, so_far.count)) read.exact read.names grown;
    }
