use Rattle.std.proofs.Common.{arith, ◌≡◌, ◌+◌, ◌++◌, ◌∙◌, ap, List, ℕ, length, drop}
use Rattle.mj_log.specs.Log.{texts}
use Rattle.mj_log.specs.Places.{gates_of}
use Rattle.mj_log.proofs.Batches.{spread_more, gates_more}
use Rattle.mj_log.proofs.frames.gates_of.Goals as goal

pub overflow_add-at-in-loop-payload : goal.overflow_add-at-in-loop-payload
overflow_add-at-in-loop-payload c =
    let v = c.payload-item.result in
    let more = spread_more c.args.payloads.now c.loop-payload.payload-index v c.loop-payload-test.true c.payload-item.is in
    omega (arith, c.len.ensures, v.ok, c.loop-payload.invariant.at, more, c.requires)

pub loop-payload-preserved : goal.loop-payload-preserved
loop-payload-preserved c =
    let v = c.payload-item.result in
    let low = c.loop-payload-test.true in
    let more = spread_more c.args.payloads.now c.loop-payload.payload-index v low c.payload-item.is in
    let size : 5 + c.len.result ≡ 5 + length v.items = omega (arith, c.len.ensures, v.ok) in
    record {
      gates = ap (λ (l : List ℕ). l ++ gates_of (c.loop-payload.at + (5 + c.len.result)) (drop (c.loop-payload.payload-index + 1) (texts c.args.payloads.now))) c.in_ok-push.ensures.items
          ∙ gates_more c.loop-payload.gates.items c.loop-payload.at (5 + c.len.result) _ c.args.payloads.now c.loop-payload.payload-index v low c.payload-item.is size c.loop-payload.invariant.gates;
      at = omega (arith, size, c.loop-payload.invariant.at, more);
    }
