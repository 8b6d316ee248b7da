use Rattle.mj_engine.proofs.Written.{grows_by_line}
use Rattle.mj_engine.proofs.top.put_line.Goals as goal

pub returns-clause-line : goal.returns-clause-line
returns-clause-line g c =
    grows_by_line c.write.result (g.S.Sink.told c.args.out.now) (g.S.Sink.told c.write.new.self) (g.S.Sink.faults c.args.out.now) (g.S.Sink.faults c.write.new.self) c.args.line.now
    c.write.ensures.ok c.write.ensures.err c.write.ensures.cause
