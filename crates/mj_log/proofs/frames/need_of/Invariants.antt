use Rattle.std.proofs.Common.{◌≡◌, ◌<◌, ◌+◌, ◌-◌, ◌^◌, min, drop}
use Rattle.mj_log.specs.Log.{texts}
use Rattle.mj_log.specs.View.{spread, need_of}
use Rattle.mj_log.proofs.frames.need_of.Given as goal

abbrev pub invariant-loop-payload : goal.invariant-loop-payload
invariant-loop-payload l = record {
  sum : min (l.need + spread (drop l.payload-index (texts l.payloads))) (2 ^ 64 - 1) ≡ need_of l.end (texts l.payloads);
  fits : l.need < 2 ^ 64;
}
