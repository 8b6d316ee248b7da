use Rattle.std.proofs.Common.{arith}
use Rattle.mj_entry_rows.specs.Forms.{IsMail}
use Rattle.mj_mail.specs.Entry.{mail_form}
use Rattle.mj_entry_write.proofs.Written.{item_each, item_small, item_written}
use Rattle.mj_entry_write.proofs.mail.put_each_mail.Goals as goal

pub put_mail-requires-clause-small : goal.put_mail-requires-clause-small
put_mail-requires-clause-small c =
    let small = item_small mail_form c.args.mails.now c.loop-mail.mail-index c.mail-item.result c.loop-mail-test.true c.mail-item.is in
    omega arith

pub loop-mail-preserved : goal.loop-mail-preserved
loop-mail-preserved c =
    let at = c.loop-mail.mail-index in
    let mail = c.mail-item.result in (
      item_written mail_form c.args.mails.now at mail c.loop-mail-test.true c.mail-item.is
          c.args.out.now c.loop-mail.out c.put_mail.new.out c.loop-mail.invariant.0 c.in_ok-put_mail.ensures.written,
      item_each IsMail c.args.mails.now at mail c.loop-mail-test.true c.mail-item.is c.loop-mail.invariant.1 c.in_ok-put_mail.ensures.form,
    )
