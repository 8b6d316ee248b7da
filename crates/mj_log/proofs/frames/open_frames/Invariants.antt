use Rattle.std.proofs.Common.{◌≡◌, take}
use Rattle.mj_log.specs.Log.{texts}
use Rattle.mj_log.specs.View.{joined}
use Rattle.mj_log.proofs.frames.open_frames.Given as goal

abbrev pub invariant-loop-payload : goal.invariant-loop-payload
invariant-loop-payload l = l.all.items ≡ joined (take l.payload-index (texts l.payloads))
