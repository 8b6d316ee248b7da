use Rattle.std.proofs.Common.{◌≡◌, ◌++◌, ◌∙◌, [], map, append-nil, sym, ap, inl, inr, arith}
use Rattle.std.specs.Iterator.Adapters.{zip_first, zip_second}
use Rattle.std.specs.List.{zip}
use Rattle.std.specs.Slice.Iter.{iter_rest}
use Rattle.mj_container.specs.Settling.{sent}
use Rattle.mj_remote.specs.declared.fate.Fate.TheVariants.{Served}
use Rattle.mj_container.specs.Settling.{those}
use Rattle.mj_remote.specs.Fates.{meets}
use Rattle.mj_remote.proofs.Chosen.{none_left, none_right}
use Rattle.mj_remote.proofs.sent.put_sent.Goals as goal

pub returns : goal.returns
returns c =
    let first = iter_rest (zip_first c.loop-recipient.recipient-iterator) in
    let second = iter_rest (zip_second c.loop-recipient.recipient-iterator) in
    let none : zip first second ≡ [] =
    elim c.in-None.ensures.steps [ inl w ↦ none_left first second (omega (arith, w.1)) | inr w ↦ none_right first second (omega (arith, w.1)) ] in
    let done = c.loop-recipient.facts in
    sym (append-nil done)
    ∙ ap (λ answers. done ++ map (sent c.args.host.now) (those (meets Served c.args.delay) answers)) (sym none)
    ∙ c.loop-recipient.invariant
