use Rattle.std.proofs.Common.{◌∙◌, arith}
use Rattle.mj_head.proofs.Removal.{others, closing_start, closing_rest, closing_end, next_field}
use Rattle.mj_head.proofs.fields.remove_named.Goals as goal

pub loop-from-init : goal.loop-from-init
loop-from-init c = closing_start (others c.args.name.now) c.args.text.now.items c.requires

pub first_field-named-requires-clause-written : goal.first_field-named-requires-clause-written
first_field-named-requires-clause-written c = closing_rest _ _ c.loop-from.text.items c.deref.result.now c.loop-from.from c.loop-from.kept c.loop-from.invariant c.deref.ensures.value

pub loop-from-smaller-then-not-named : goal.loop-from-smaller-then-not-named
loop-from-smaller-then-not-named c =
    let next = next_field c.args.name.now _ c.loop-from.text.items c.deref.result.now c.first_field-named.result.0 c.loop-from.from c.loop-from.kept c.first_field-named.result.1 c.loop-from.invariant c.deref.ensures.value c.first_field-named.ensures in
    omega (arith, next.some, next.within, c.copy_within.ensures.len)

pub loop-from-preserved-then-not-named : goal.loop-from-preserved-then-not-named
loop-from-preserved-then-not-named c =
    let next = next_field c.args.name.now _ c.loop-from.text.items c.deref.result.now c.first_field-named.result.0 c.loop-from.from c.loop-from.kept c.first_field-named.result.1 c.loop-from.invariant c.deref.ensures.value c.first_field-named.ensures in
    rw c.copy_within.ensures.items (next.stays c.if-not-named.true)

pub loop-from-smaller : goal.loop-from-smaller
loop-from-smaller c =
    let next = next_field c.args.name.now _ c.loop-from.text.items c.deref.result.now c.first_field-named.result.0 c.loop-from.from c.loop-from.kept c.first_field-named.result.1 c.loop-from.invariant c.deref.ensures.value c.first_field-named.ensures in
    omega (arith, next.some, next.within)

pub loop-from-preserved : goal.loop-from-preserved
loop-from-preserved c =
    let next = next_field c.args.name.now _ c.loop-from.text.items c.deref.result.now c.first_field-named.result.0 c.loop-from.from c.loop-from.kept c.first_field-named.result.1 c.loop-from.invariant c.deref.ensures.value c.first_field-named.ensures in
    next.goes c.if-not-named.false

pub returns : goal.returns
returns c = c.truncate.ensures.items ∙ closing_end _ _ c.loop-from.text.items c.loop-from.from c.loop-from.kept c.loop-from.invariant (omega arith)
