use Rattle.std.proofs.Common.{◌≡◌, ◌∙◌, map, ap, subst, IfOk}
use Rattle.mj_container.specs.Serving.{by_domain, sent_out}
use Rattle.mj_mailets.proofs.delivery.sent_by_domain.Goals as goal

pub returns : goal.returns
returns c =
    subst (λ groups. IfOk c.sent_each.result (λ mails. mails ≡ map (λ group. sent_out c.args.outgoing.now group.0 group.1 c.args.mail) groups))
    (c.in_ok-groups.ensures ∙ ap by_domain c.replace-recipients.ensures.value) c.sent_each.ensures
