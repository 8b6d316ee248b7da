use Rattle.std.proofs.Common.{append_assoc}
use Rattle.mj_mail.proofs.Recipients.{recipients_next}
use Rattle.mj_mail.proofs.line.put_recipients.Goals as goal

pub loop-k-preserved : goal.loop-k-preserved
loop-k-preserved c =
    let next = recipients_next c.args.recipients.now c.loop-k.k c.recipient_at.result.now c.recipient_at.ensures in
    rw (c.in_ok-put_address.ensures, c.in_ok-put_separator.ensures, c.loop-k.invariant, next) (simp append_assoc)
