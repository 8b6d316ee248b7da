use Rattle.std.proofs.Common.{ap, ◌∙◌}
use Rattle.std.specs.Option.{option_copied}
use Rattle.mj_config_walk.specs.Rest.{items_in}
use Rattle.mj_config_walk.specs.Values.{address}
use Rattle.mj_config_walk.proofs.Ahead.{turn_read}
use Rattle.mj_config_values.proofs.parts.addresses.Goals as goal

pub loop-rest-preserved : goal.loop-rest-preserved
loop-rest-preserved c =
    turn_read address c.loop-rest.addresses c.push.new.self c.in_ok-address.field-0 c.next_item.result.0.now (items_in (option_copied c.loop-rest.rest)) (items_in (option_copied c.next_item.result.1))
    (ap (λ r. items_in (option_copied r)) c.in-Some.is ∙ c.next_item.ensures.items)
    c.in_ok-address.ensures
    c.in_ok-push.ensures.ok
    ∙ c.loop-rest.invariant
