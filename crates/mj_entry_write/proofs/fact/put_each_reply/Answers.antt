use Rattle.std.proofs.Common.{arith}
use Rattle.mj_mail.specs.Entry.{reply_form}
use Rattle.mj_entry_write.proofs.Written.{item_small}
use Rattle.mj_entry_write.proofs.fact.put_each_reply.Goals as goal

pub put_reply-requires : goal.put_reply-requires
put_reply-requires c =
    let small = item_small reply_form c.args.replies.now c.loop-reply.reply-index c.reply-item.result c.loop-reply-test.true c.reply-item.is in
    omega arith
