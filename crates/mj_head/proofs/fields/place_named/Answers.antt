use Rattle.std.proofs.Common.{◌≡◌, length, true, false, not, ap, arith, rules, refl}
use Rattle.std.proofs.lemmas.Bool.{and_from, not_from_false}
use Rattle.mj_head.specs.Fields.{is_named}
use Rattle.mj_head.proofs.Changes.{list_all-append}
use Rattle.mj_head.proofs.Places.{drop_next, take_next}
use Rattle.mj_head.proofs.fields.place_named.Goals as goal

pub loop-field-preserved : goal.loop-field-preserved
loop-field-preserved c =
    let i = c.loop-field.invariant in
    let named : is_named c.args.name.now c.in-Some.field ≡ false = search rules in (
      drop_next c.args.fields c.loop-field.fields c.next.new.self c.in-Some.field c.loop-field.place i.0 c.in-Some.ensures.steps,
      omega (arith, i.1, ap length c.in-Some.ensures.steps),
      rw (take_next c.args.fields c.loop-field.fields c.next.new.self c.in-Some.field c.loop-field.place i.0 c.in-Some.ensures.steps)
          (list_all-append (λ field. not (is_named c.args.name.now field)) _ _ i.2 (and_from _ true (not_from_false _ named) refl)),
    )
