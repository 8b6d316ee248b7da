use Rattle.std.proofs.Common.{◌≡◌, ◌++◌, take}
use Rattle.std.specs.List.{AllByRecursion, flat_map}
use Rattle.mj_entry_rows.specs.Forms.{IsMail}
use Rattle.mj_mail.specs.Entry.{mail_form}
use Rattle.mj_entry_write.proofs.mail.put_each_mail.Given as goal

abbrev pub invariant-loop-mail : goal.invariant-loop-mail
invariant-loop-mail l =
    (l.out ≡ l.initial.out ++ flat_map mail_form (take l.mail-index l.mails)) × AllByRecursion IsMail (take l.mail-index l.mails)
