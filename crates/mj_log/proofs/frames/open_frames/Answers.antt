use Rattle.std.proofs.Common.{◌≡◌, ◌∷◌, ◌++◌, ◌∙◌, sym, ap, List, ℕ}
use Rattle.mj_log.specs.FrameLaws.{framed}
use Rattle.mj_log.proofs.Batches.{joined_next}
use Rattle.mj_log.proofs.frames.open_frames.Goals as goal

pub loop-payload-preserved : goal.loop-payload-preserved
loop-payload-preserved c =
    let v = c.payload-item.result in
    let put : c.push_frame.new.all.items ≡ c.loop-payload.all.items ++ 1 ∷ framed v.items = c.in_ok-push_frame.ensures ∙ ap (λ (l : List ℕ). c.loop-payload.all.items ++ 1 ∷ framed l) c.deref.ensures.value in
    put ∙ ap (λ (l : List ℕ). l ++ 1 ∷ framed v.items) c.loop-payload.invariant ∙ sym (joined_next c.args.payloads.now c.loop-payload.payload-index v c.loop-payload-test.true c.payload-item.is)
