use Rattle.mj_log.proofs.Loads.{loaded, same_reading}
use Rattle.mj_log.proofs.load.load.Goals as goal

pub returns-then-size-le9-clause-any_moment : goal.returns-then-size-le9-clause-any_moment
returns-then-size-le9-clause-any_moment g c = loaded _ _ _ c.in_ok-size.ensures.kept (g.met.D.Disk.reads c.args.disk.now) c.settle.ensures.any_moment c.begin.ensures.any_moment

pub returns-then-size-le9-clause-same : goal.returns-then-size-le9-clause-same
returns-then-size-le9-clause-same g c = same_reading c.begin.result _ _ _ c.in_ok-size.ensures.kept c.begin.ensures.any_moment (g.met.D.Disk.reads c.begin.new.disk)

pub returns-else-size-le9-clause-any_moment : goal.returns-else-size-le9-clause-any_moment
returns-else-size-le9-clause-any_moment g c = loaded _ _ _ c.in_ok-size.ensures.kept (g.met.D.Disk.reads c.args.disk.now) c.settle.ensures.any_moment c.repair.ensures.any_moment

pub returns-else-size-le9-clause-same : goal.returns-else-size-le9-clause-same
returns-else-size-le9-clause-same g c = same_reading c.repair.result _ _ _ c.in_ok-size.ensures.kept c.repair.ensures.any_moment (g.met.D.Disk.reads c.repair.new.disk)
