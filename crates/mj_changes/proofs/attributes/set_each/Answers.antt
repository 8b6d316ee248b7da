use Rattle.std.proofs.Common.{◌∙◌, length, nat_le, sym}
use Rattle.mj_container.specs.Changes.{with_each}
use Rattle.mj_mail.specs.declared.attributes.TheConstants.{MAX_ATTRIBUTES}
use Rattle.mj_mail.specs.Attributes.{with_attribute}
use Rattle.mj_changes.proofs.Grown.{not_all}
use Rattle.mj_changes.proofs.attributes.set_each.Goals as goal

pub returns-then-not-branch-clause-fits : goal.returns-then-not-branch-clause-fits
returns-then-not-branch-clause-fits c =
    sym (not_all MAX_ATTRIBUTES c.args.named.now c.loop-name.name-index c.loop-name-item.result c.loop-name.attributes (with_each c.args.named.now c.args.attributes.now)
    c.loop-name-test.true c.loop-name-item.is c.loop-name.invariant
    ((λ i. nat_le (length (with_attribute (sym c.as_slice.ensures i) (sym c.as_slice-in-loop-name.ensures i) c.loop-name.attributes)) MAX_ATTRIBUTES)
    ∙ sym c.in_ok-set.ensures.fits ∙ c.if-not-branch.true))
