use Rattle.std.proofs.Common.{◌∙◌, map, ap}
use Rattle.mj_container.specs.Serving.{by_domain}
use Rattle.mj_groups.specs.Groups.{grouped}
use Rattle.mj_terms.specs.Text.{same_text}
use Rattle.mj_mailets.proofs.Domains.{groups_are_recipients}
use Rattle.mj_mailets.proofs.delivery.by_domain.Goals as goal

pub recipient_lists-requires : goal.recipient_lists-requires
recipient_lists-requires c =
    groups_are_recipients c.args.recipients c.len-form.ensures.form (map (λ group. (group.0, group.1.items)) c.in_ok-grouped.field-0.items)
    (c.in_ok-grouped.ensures ∙ ap (grouped same_text) c.in_ok-pairs.ensures ∙ ap by_domain c.in_ok-into_vec.ensures)
