use Rattle.std.proofs.Common.{drop, ap, sym, ◌∙◌, arith}
use Rattle.mj_head.proofs.Places.{drop_next, drop_past}
use Rattle.mj_head.proofs.fields.fields_from.Goals as goal

pub returns-in_default : goal.returns-in_default
returns-in_default c = c.in_default.ensures.steps.1 ∙ sym (drop_past c.args.fields c.loop.fields c.loop.counter c.args.place c.loop.invariant c.in_default.ensures.steps.0 (omega arith))

pub loop-preserved : goal.loop-preserved
loop-preserved c = drop_next c.args.fields c.loop.fields c.next.new.self c.in-Some._field c.loop.counter c.loop.invariant c.in-Some.ensures.steps

pub returns : goal.returns
returns c = c.loop.invariant ∙ ap (λ n. drop n c.args.fields) (omega arith)
