use Rattle.std.proofs.Common.{arith, ap}
use Rattle.mj_log.specs.View.{spread}
use Rattle.mj_log.proofs.Batches.{spread_more, texts_end}
use Rattle.mj_log.proofs.frames.need_of.Goals as goal

pub loop-payload-preserved : goal.loop-payload-preserved
loop-payload-preserved c =
    let v = c.payload-item.result in
    let more = spread_more c.args.payloads.now c.loop-payload.payload-index v c.loop-payload-test.true c.payload-item.is in
    record {
      sum = omega (arith, c.len.ensures, v.ok, more, c.saturating_add-need.ensures, c.loop-payload.invariant.sum);
      fits = omega (arith, c.saturating_add-need.ensures);
    }

pub returns : goal.returns
returns c =
    let none = ap spread (texts_end c.args.payloads.now c.loop-payload.payload-index c.loop-payload-test.false) in
    omega (arith, none, c.loop-payload.invariant.sum, c.loop-payload.invariant.fits)
