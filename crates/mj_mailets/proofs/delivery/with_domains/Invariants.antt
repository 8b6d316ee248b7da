use Rattle.std.proofs.Common.{◌≡◌, ◌++◌, map}
use Rattle.std.specs.Vec.Iter.{into_iter_items}
use Rattle.mj_mailets.proofs.delivery.with_domains.Given as goal

abbrev pub invariant-loop-address : goal.invariant-loop-address
invariant-loop-address l = l.pairs.items ++ map (λ r. (r.1, r)) (into_iter_items l.address-iterator) ≡ map (λ r. (r.1, r)) l.fn.addresses.items
