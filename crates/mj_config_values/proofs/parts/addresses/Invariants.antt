use Rattle.std.proofs.Common.{◌≡◌}
use Rattle.std.specs.Option.{option_copied}
use Rattle.mj_config_walk.specs.Arguments.{items}
use Rattle.mj_config_walk.specs.Rest.{items_in, left}
use Rattle.mj_config_walk.specs.Values.{address, each}
use Rattle.mj_config_walk.proofs.Ahead.{ahead}
use Rattle.mj_config_values.proofs.parts.addresses.Given as goal

abbrev pub invariant-loop-rest : goal.invariant-loop-rest
invariant-loop-rest l = ahead l.addresses (each address (items_in (option_copied l.rest))) ≡ each address (items l.fn.text)

abbrev pub decreases-loop-rest : goal.decreases-loop-rest
decreases-loop-rest l = left (option_copied l.rest)
