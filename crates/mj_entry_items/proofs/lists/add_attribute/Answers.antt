use Rattle.std.proofs.Common.{◌≡◌, Bool, IfOk, sym, subst, ◌∙◌}
use Rattle.mj_mail.specs.declared.attributes.TheConstants.{MAX_ATTRIBUTES}
use Rattle.mj_entry_items.proofs.Ascending.{few_behind}
use Rattle.mj_entry_items.proofs.lists.add_attribute.Goals as goal

pub returns-clause-answer : goal.returns-clause-answer
returns-clause-answer c =
    let same = few_behind c.args.attributes.now c.args.name.now c.args.value.now MAX_ATTRIBUTES (sym c.is_next.ensures ∙ c.if-not-is_next.false) in
    subst (λ (fits : Bool). IfOk c.set.result (λ added. added ≡ fits)) same c.set.ensures.fits
