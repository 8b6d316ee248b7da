use Rattle.mj_disk.specs.MomentLaws.{on_sync}
use Rattle.mj_log.proofs.Steps.{closing, closed}
use Rattle.mj_log.proofs.gate.close_behind.Goals as goal

pub returns-in_err-cut-clause-any_moment : goal.returns-in_err-cut-clause-any_moment
returns-in_err-cut-clause-any_moment g c front junk size rests = closing front junk c.args.end size _ rests _ _ c.cut.ensures.change

pub returns-clause-any_moment : goal.returns-clause-any_moment
returns-clause-any_moment g c front junk size rests =
    let one = closing front junk c.args.end size _ rests _ _ c.cut.ensures.change in
    on_sync _ _ _ _ _ one c.sync.ensures.change (g.met.D.Disk.reads c.cut.new.self)

pub returns-clause-done : goal.returns-clause-done
returns-clause-done g c front junk size rests = closed front junk c.args.end size _ rests _ _ _ _ _ _ c.in_ok-cut.ensures.change c.sync.ensures.change
