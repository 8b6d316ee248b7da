use Rattle.std.proofs.Common.{◌≡◌, sym, ◌∙◌, ap, Some}
use Rattle.mj_mail.proofs.AttributeLists.{value_found, no_value}
use Rattle.mj_mail.proofs.attributes.Attributes.get.Goals as goal

pub returns-in-Ok : goal.returns-in-Ok
returns-in-Ok c =
    let view : c.self.inside.pairs.items ≡ c.args.self.now = c.self.view_is in
    let found = value_found c.args.self.now c.in-Ok.k c.args.name.now c.index.result.now c.in-Ok.ensures.form.ascending c.in-Ok.ensures.found (rw view at c.index.ensures) in
    ap Some c.as_slice.ensures ∙ sym found

pub returns-in-Err : goal.returns-in-Err
returns-in-Err c = sym (no_value _ _ _ c.in-Err.ensures.gap)
