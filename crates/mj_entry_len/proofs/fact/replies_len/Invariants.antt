use Rattle.std.proofs.Common.{◌≡◌, ◌+◌, length, take}
use Rattle.std.specs.List.{flat_map}
use Rattle.mj_mail.specs.Entry.{reply_form}
use Rattle.mj_entry_len.specs.Stored.{stored}
use Rattle.mj_entry_len.proofs.fact.replies_len.Given as goal

abbrev pub invariant-loop-reply : goal.invariant-loop-reply
invariant-loop-reply l = l.total ≡ stored (4 + length (flat_map reply_form (take l.reply-index l.replies)))
