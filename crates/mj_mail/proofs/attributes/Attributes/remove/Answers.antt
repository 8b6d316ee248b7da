use Rattle.std.proofs.Common.{not, bytes_eq, rules}
use Rattle.std.proofs.lemmas.Fn.{filter_same}
use Rattle.mj_mail.proofs.AttributeLists.{without_form}
use Rattle.mj_mail.proofs.attributes.Attributes.remove.Goals as goal

pub invariant_of-self : goal.invariant_of-self
invariant_of-self c =
    let kept = filter_same _ (λ pair. not (bytes_eq pair.0 c.args.name.now)) _ (λ pair b f t. search rules) _ _ c.retain.ensures.filtered in
    rw kept (without_form _ _ c.self.invariant)

pub returns : goal.returns
returns c =
    let kept = filter_same _ (λ pair. not (bytes_eq pair.0 c.args.name.now)) _ (λ pair b f t. search rules) _ _ c.retain.ensures.filtered in
    rw (← c.self.view_is) kept
