use Rattle.mj_disk.specs.MomentLaws.{on_sync}
use Rattle.mj_log.proofs.Steps.{renewing, renewed}
use Rattle.mj_log.proofs.gate.write_anew.Goals as goal

pub returns-in_err-write_at-clause-any_moment : goal.returns-in_err-write_at-clause-any_moment
returns-in_err-write_at-clause-any_moment g c old short rests = renewing old c.args.bytes.now short _ rests _ _ c.write_at.ensures.change

pub returns-clause-any_moment : goal.returns-clause-any_moment
returns-clause-any_moment g c old short rests =
    let one = renewing old c.args.bytes.now short _ rests _ _ c.write_at.ensures.change in
    on_sync _ _ _ _ _ one c.sync.ensures.change (g.met.D.Disk.reads c.write_at.new.self)

pub returns-clause-done : goal.returns-clause-done
returns-clause-done g c old short rests = renewed old c.args.bytes.now short _ rests _ _ _ _ _ _ c.in_ok-write_at.ensures.change c.sync.ensures.change
