use Rattle.std.proofs.Common.{◌≡◌, ℕ, List, ◌++◌, map}
use Rattle.std.specs.List.{AllByRecursion}
use Rattle.std.specs.Vec.Iter.{into_iter_items}
use Rattle.mj_address.specs.Same.{AreRecipients}
use Rattle.mj_mailets.proofs.delivery.recipient_lists.Given as goal

-- the lists so far and those that are to come, which are recipients too
abbrev pub invariant-loop-domain : goal.invariant-loop-domain
invariant-loop-domain l = record {
  lists : l.lists.items ++ map (λ group. (group.0, group.1.items)) (into_iter_items l.domain-iterator) ≡ map (λ group. (group.0, group.1.items)) l.fn.groups.items;
  apart : AllByRecursion (λ (group : List ℕ × List (List ℕ × List ℕ)). AreRecipients group.1) (map (λ group. (group.0, group.1.items)) (into_iter_items l.domain-iterator));
}
