use Rattle.std.proofs.Common.{◌∙◌, ◌++◌, ◌∷◌, [], length, nat_le, sym, ap}
use Rattle.mj_container.specs.Changes.{field_of, fields_from}
use Rattle.mj_head.specs.Head.{written}
use Rattle.mj_mail.specs.declared.limits.TheConstants.{MAX_HEAD}
use Rattle.mj_mail.specs.Attributes.{attribute_value}
use Rattle.mj_changes.proofs.Grown.{not_all_fields}
use Rattle.mj_changes.proofs.Values.{attribute_is_value}
use Rattle.mj_changes.proofs.fields.append_each.Goals as goal

pub append_field-requires-clause-value : goal.append_field-requires-clause-value
append_field-requires-clause-value c =
    attribute_is_value c.as_slice.result.now c.args.attributes.now c.in-Some.value.now c.requires.values (sym c.in-Some.ensures)

pub returns-then-not-branch-clause-fits : goal.returns-then-not-branch-clause-fits
returns-then-not-branch-clause-fits c =
    sym (not_all_fields MAX_HEAD c.args.mapping.now c.loop-name.name-index c.loop-name-item.result c.loop-name.head (c.args.head.now ++ fields_from c.args.mapping.now c.args.attributes.now)
    c.args.attributes.now c.in-Some.value.now c.loop-name-test.true c.loop-name-item.is
    (ap (λ name. attribute_value name c.args.attributes.now) (sym c.as_slice.ensures) ∙ sym c.in-Some.ensures) c.loop-name.invariant.fields
    ((λ i. nat_le (length (written (c.loop-name.head ++ field_of (sym c.as_slice-in-Some.ensures i) c.in-Some.value.now ∷ []))) MAX_HEAD)
    ∙ sym c.in_ok-append_field.ensures.fits ∙ c.if-not-branch.true))
