use Rattle.std.proofs.Common.{arith, ap, length, ◌+◌, ◌∙◌}
use Rattle.std.proofs.lemmas.List.{length_push}
use Rattle.mj_config.specs.Seen.{header_seen}
use Rattle.mj_config.proofs.Turns.{processor_next}
use Rattle.mj_config.proofs.processors.processors.Goals as goal

pub loop-header-preserved : goal.loop-header-preserved
loop-header-preserved c =
    let so_far = c.loop-header.invariant in
    let read = c.in_ok-processor_at.ensures in
    let grown = c.in_ok-push.ensures.ok in
    record {
      count = ap length grown ∙ length_push c.loop-header.processors c.in_ok-processor_at.field-0 ∙ ap (λ n. n + 1) so_far.count;
      exact = so_far.exact
          ∙ processor_next header_seen c.args.names.now c.loop-header.taken c.processor_at.new.taken c.args.headers.now c.loop-header.header-index (c.len.result + 1)
          c.header-item.result c.loop-header.processors c.push.new.self c.in_ok-processor_at.field-0 c.loop-header-test.true c.header-item.is
          (omega (arith, c.len.ensures, so_far.count)) read.exact read.name read.taken grown;
    }
