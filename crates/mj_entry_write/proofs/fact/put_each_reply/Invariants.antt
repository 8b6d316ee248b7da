use Rattle.std.proofs.Common.{◌≡◌, ◌++◌, take}
use Rattle.std.specs.List.{flat_map}
use Rattle.mj_mail.specs.Entry.{reply_form}
use Rattle.mj_entry_write.proofs.fact.put_each_reply.Given as goal

abbrev pub invariant-loop-reply : goal.invariant-loop-reply
invariant-loop-reply l = l.out ≡ l.initial.out ++ flat_map reply_form (take l.reply-index l.replies)
