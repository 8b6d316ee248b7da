use Rattle.mj_log.proofs.Loads.{opened_at}
use Rattle.mj_log.proofs.log.Log.reopen.Goals as goal

pub returns-in-Ok-clause-opened : goal.returns-in-Ok-clause-opened
returns-in-Ok-clause-opened g c bytes told = opened_at _ _ _ _ _ c.load.ensures.any_moment c.in-Ok.ensures.same c.in-Ok.ensures.journal bytes told
