use Rattle.mj_mailfile.proofs.Again.{told_again}
use Rattle.mj_mailfile.proofs.write.write_mail_file.Goals as goal

pub returns-clause-read_again : goal.returns-clause-read_again
returns-clause-read_again c =
    told_again c.args.mail.now c.put_mail.result c.requires.some c.requires.few c.put_mail.ensures.written c.put_mail.ensures.sender
    c.put_mail.ensures.recipients c.put_mail.ensures.head
