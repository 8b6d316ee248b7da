use Rattle.std.proofs.Common.{◌≡◌}
use Rattle.std.specs.Vec.Iter.{into_iter_items}
use Rattle.mj_address.specs.Same.{with_addresses}
use Rattle.mj_address.proofs.recipients.Recipients.add_all.Given as goal

-- what is left, added to those so far, gives what all give
abbrev pub invariant-loop-address : goal.invariant-loop-address
invariant-loop-address l = with_addresses l.self (into_iter_items l.address-iterator) ≡ with_addresses l.initial.self l.fn.addresses.items
