use Rattle.std.proofs.Common.{◌∙◌, ◌+◌, ◌++◌, sym, ap, arith}
use Rattle.std.proofs.lemmas.Option.{slice_get_within}
use Rattle.mj_mail.specs.Outcome.{both}
use Rattle.mj_container.specs.Running.{run, split}
use Rattle.mj_container.specs.Verdict.{verdict}
use Rattle.mj_plan.specs.Sound.{names_of}
use Rattle.mj_split.specs.Parts.{waits_at}
use Rattle.mj_split.proofs.Turns.{fell, few_steps, formed_at, mailet_of, matcher_of, past, popped_fit, stepped}
use Rattle.mj_split.proofs.run.run_parts.Goals as goal

pub overflow_add-at : goal.overflow_add-at
overflow_add-at c =
    let p = c.args.processor.now in
    let within = slice_get_within p.steps c.in-Some.part.place c.in-Some-get.step.now (sym c.in-Some-get.ensures) in
    omega (arith, within, few_steps (names_of c.args.plan.now.processors) p c.requires.processor)

pub overflow_add-place : goal.overflow_add-place
overflow_add-place c =
    let p = c.args.processor.now in
    let within = slice_get_within p.steps c.in-Some.part.place c.in-Some-get.step.now (sym c.in-Some-get.ensures) in
    omega (arith, within, few_steps (names_of c.args.plan.now.processors) p c.requires.processor)

pub overflow_add-place-in-Some-get : goal.overflow_add-place-in-Some-get
overflow_add-place-in-Some-get c =
    let p = c.args.processor.now in
    let within = slice_get_within p.steps c.in-Some.part.place c.in-Some-get.step.now (sym c.in-Some-get.ensures) in
    omega (arith, within, few_steps (names_of c.args.plan.now.processors) p c.requires.processor)

pub take_step-requires-clause-matcher : goal.take_step-requires-clause-matcher
take_step-requires-clause-matcher c =
    let names = names_of c.args.plan.now.processors in
    matcher_of names c.in-Some-get.step.now (formed_at names c.args.processor.now c.in-Some.part.place c.in-Some-get.step.now c.requires.processor (sym c.in-Some-get.ensures))

pub take_step-requires-clause-mailet : goal.take_step-requires-clause-mailet
take_step-requires-clause-mailet c =
    let names = names_of c.args.plan.now.processors in
    mailet_of names c.in-Some-get.step.now (formed_at names c.args.processor.now c.in-Some.part.place c.in-Some-get.step.now c.requires.processor (sym c.in-Some-get.ensures))

pub take_step-requires-clause-fit : goal.take_step-requires-clause-fit
take_step-requires-clause-fit c = popped_fit c.loop-part.waiting c.pop.new.self c.in-Some.part c.in-Some.ensures c.loop-part.invariant.fit

pub loop-part-smaller-in-Continue-branch-2 : goal.loop-part-smaller-in-Continue-branch-2
loop-part-smaller-in-Continue-branch-2 c =
    let p = c.args.processor.now in
    let plan = c.args.plan.now in
    let t = fell plan p.name p.steps (run plan p.name 1 p.steps c.args.mail) c.loop-part.out c.fall_off.new.out c.loop-part.waiting c.pop.new.self c.pop.new.self c.in-Some.part
    c.loop-part.invariant.told c.loop-part.invariant.fit c.in-Some.ensures (past p.steps c.in-Some.part.place (sym c.in-None.ensures)) c.in_ok-fall_off-in-None.ensures (λ _. c.pop.new.self) in
    t.lighter

pub loop-part-preserved-in-Continue-branch-2 : goal.loop-part-preserved-in-Continue-branch-2
loop-part-preserved-in-Continue-branch-2 c =
    let p = c.args.processor.now in
    let plan = c.args.plan.now in
    let t = fell plan p.name p.steps (run plan p.name 1 p.steps c.args.mail) c.loop-part.out c.fall_off.new.out c.loop-part.waiting c.pop.new.self c.pop.new.self c.in-Some.part
    c.loop-part.invariant.told c.loop-part.invariant.fit c.in-Some.ensures (past p.steps c.in-Some.part.place (sym c.in-None.ensures)) c.in_ok-fall_off-in-None.ensures (λ _. c.pop.new.self) in
    record { told = t.told; fit = t.fit }

pub loop-part-smaller : goal.loop-part-smaller
loop-part-smaller c =
    let p = c.args.processor.now in
    let plan = c.args.plan.now in
    let step = c.in-Some-get.step.now in
    let place = c.in-Some.part.place in
    let mail = c.in-Some.part.mail in
    let parts = c.in_ok-parts-in-Some-get.parts in
    let t = stepped plan p.name p.steps (run plan p.name 1 p.steps c.args.mail) c.loop-part.out c.take_step.new.out c.loop-part.waiting c.wait-in-Some-get.new.waiting c.pop.new.self c.in-Some.part
    c.loop-part.invariant.told c.loop-part.invariant.fit c.in-Some.ensures step parts.served parts.rest (sym c.in-Some-get.ensures)
    (λ on. c.in_ok-parts-in-Some-get.ensures.outcome on ∙ (λ i. both c.loop-part.out (split plan (c.as_slice.ensures i) (place + 1) step on mail (verdict plan step mail))))
    c.in_ok-parts-in-Some-get.ensures.fit.served c.in_ok-parts-in-Some-get.ensures.fit.rest
    (c.in_ok-wait-in-Some-get-2.ensures ∙ ap (λ w. w ++ waits_at (place + 1) parts.served) c.in_ok-wait-in-Some-get.ensures) in
    t.lighter

pub loop-part-preserved : goal.loop-part-preserved
loop-part-preserved c =
    let p = c.args.processor.now in
    let plan = c.args.plan.now in
    let step = c.in-Some-get.step.now in
    let place = c.in-Some.part.place in
    let mail = c.in-Some.part.mail in
    let parts = c.in_ok-parts-in-Some-get.parts in
    let t = stepped plan p.name p.steps (run plan p.name 1 p.steps c.args.mail) c.loop-part.out c.take_step.new.out c.loop-part.waiting c.wait-in-Some-get.new.waiting c.pop.new.self c.in-Some.part
    c.loop-part.invariant.told c.loop-part.invariant.fit c.in-Some.ensures step parts.served parts.rest (sym c.in-Some-get.ensures)
    (λ on. c.in_ok-parts-in-Some-get.ensures.outcome on ∙ (λ i. both c.loop-part.out (split plan (c.as_slice.ensures i) (place + 1) step on mail (verdict plan step mail))))
    c.in_ok-parts-in-Some-get.ensures.fit.served c.in_ok-parts-in-Some-get.ensures.fit.rest
    (c.in_ok-wait-in-Some-get-2.ensures ∙ ap (λ w. w ++ waits_at (place + 1) parts.served) c.in_ok-wait-in-Some-get.ensures) in
    record { told = t.told; fit = t.fit }
