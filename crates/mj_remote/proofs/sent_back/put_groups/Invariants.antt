use Rattle.std.proofs.Common.{◌≡◌, ◌++◌, length, map}
use Rattle.std.specs.Vec.Iter.{into_iter_items, into_iter_len}
use Rattle.mj_container.specs.Settling.{sent_back}
use Rattle.mj_remote.specs.Parts.{AreGroups}
use Rattle.mj_remote.proofs.sent_back.put_groups.Given as goal

-- what was sent back, and what is to come
abbrev pub invariant-loop-reply : goal.invariant-loop-reply
invariant-loop-reply l = record {
  len : into_iter_len l.reply-iterator ≡ length (into_iter_items l.reply-iterator);
  groups : AreGroups (map (λ group. (group.0, group.1.items)) (into_iter_items l.reply-iterator));
  put : l.children ++ map (sent_back l.state l.mail) (map (λ group. (group.0, group.1.items)) (into_iter_items l.reply-iterator))
      ≡ l.initial.children ++ map (sent_back l.state l.mail) (map (λ group. (group.0, group.1.items)) l.fn.groups.items);
}
