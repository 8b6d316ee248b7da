use Rattle.std.proofs.Common.{◌≡◌, ◌++◌, map}
use Rattle.std.specs.Vec.Iter.{into_iter_items}
use Rattle.mj_container.specs.Serving.{sent_out}
use Rattle.mj_mailets.proofs.delivery.sent_copies.Given as goal

abbrev pub invariant-loop-host : goal.invariant-loop-host
invariant-loop-host l =
    l.mails.items ++ map (λ group. sent_out l.outgoing group.0 group.1 l.mail) (into_iter_items l.host-iterator) ≡ map (λ group. sent_out l.outgoing group.0 group.1 l.mail) l.fn.groups.items
