use Rattle.std.proofs.Common.{◌∙◌, arith, refl, subst, sym}
use Rattle.mj_engine.specs.Ends.{GrowsByLine}
use Rattle.mj_engine.proofs.Endings.{run_ends, usage_ends}
use Rattle.mj_engine.proofs.top.james_one.Goals as goal

pub returns-then-asks_run : goal.returns-then-asks_run
returns-then-asks_run g c =
    let run = c.run_command.ensures in
    record {
      runs =
          run_ends _ c.run_command.result (sym c.asks_run.ensures ∙ c.if-asks_run.true) run.status run.configuration run.answers run.read run.write run.report run.report_front
          run.config_text run.answers_text run.read_text run.nothing run.same_files run.file_faults run.sink_faults;
    }

pub returns-else-asks_run : goal.returns-else-asks_run
returns-else-asks_run g c = record {
  runs =
      usage_ends _ (sym c.asks_run.ensures ∙ c.if-asks_run.false)
      (subst (GrowsByLine (g.S.Sink.told c.args.out.now) (g.S.Sink.told c.put_line.new.out) (g.S.Sink.faults c.args.out.now) (g.S.Sink.faults c.put_line.new.out))
      c.usage_line.ensures c.put_line.ensures.line)
      refl (omega arith) c.put_line.ensures.later;
}
