use Rattle.std.proofs.Common.{arith, refl}
use Rattle.mj_log.proofs.Headers.{stops_at}
use Rattle.mj_log.proofs.walk.pass.Goals as goal

pub returns-in_default-frame_end-clause-fault : goal.returns-in_default-frame_end-clause-fault
returns-in_default-frame_end-clause-fault g c =
    stops_at _ c.args.end c.args.file c.in-Ok.header.gate _ _ c.in-Ok.header.size (omega (arith, c.len.ensures, c.args.gates.now.ok)) c.requires.within c.requires.file c.in-Ok.ensures.header c.if-header-eq0.false (c.in_default-frame_end.ensures.none refl)
