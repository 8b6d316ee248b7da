use Rattle.std.proofs.Common.{◌≡◌, take}
use Rattle.mj_mail.proofs.entry.copy_replies.Given as goal

abbrev pub invariant-loop-reply : goal.invariant-loop-reply
invariant-loop-reply l = l.copies ≡ take l.reply-index l.replies
