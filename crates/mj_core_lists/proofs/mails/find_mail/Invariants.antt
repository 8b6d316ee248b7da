use Rattle.std.proofs.Common.{◌≡◌, drop}
use Rattle.mj_lawful.specs.Machine.{mail_of}
use Rattle.mj_core_lists.proofs.mails.find_mail.Given as goal

abbrev pub invariant-loop-mail : goal.invariant-loop-mail
invariant-loop-mail l = mail_of (drop l.mail-index l.mails) l.name ≡ mail_of l.mails l.name
