use Rattle.mj_disk.specs.MomentLaws.{on_sync}
use Rattle.mj_log.proofs.Loads.{begins_at, then_same}
use Rattle.mj_log.proofs.load.settle.Goals as goal

pub returns-then-is_err-clause-any_moment : goal.returns-then-is_err-clause-any_moment
returns-then-is_err-clause-any_moment g c = on_sync _ _ _ _ _ (begins_at _) c.sync.ensures.change (g.met.D.Disk.reads c.args.disk.now)

pub returns-in-Ok-clause-any_moment : goal.returns-in-Ok-clause-any_moment
returns-in-Ok-clause-any_moment g c = then_same _ _ _ _ (on_sync _ _ _ _ _ (begins_at _) c.sync.ensures.change (g.met.D.Disk.reads c.args.disk.now)) c.length.ensures.same

pub returns-in-Err-clause-any_moment : goal.returns-in-Err-clause-any_moment
returns-in-Err-clause-any_moment g c = then_same _ _ _ _ (on_sync _ _ _ _ _ (begins_at _) c.sync.ensures.change (g.met.D.Disk.reads c.args.disk.now)) c.length.ensures.same
