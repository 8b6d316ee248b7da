use Rattle.std.proofs.Common.{◌≡◌, ◌+◌, ◌++◌, drop}
use Rattle.mj_log.specs.Log.{texts}
use Rattle.mj_log.specs.Places.{gates_of}
use Rattle.mj_log.specs.View.{spread}
use Rattle.mj_log.proofs.frames.gates_of.Given as goal

abbrev pub invariant-loop-payload : goal.invariant-loop-payload
invariant-loop-payload l = record {
  gates : l.gates.items ++ gates_of l.at (drop l.payload-index (texts l.payloads)) ≡ gates_of l.end (texts l.payloads);
  at : l.at + spread (drop l.payload-index (texts l.payloads)) ≡ l.end + spread (texts l.payloads);
}
