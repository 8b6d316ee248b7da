use Rattle.std.proofs.Common.{◌+◌, ◌≤◌, length, take}
use Rattle.std.specs.List.{flat_map}
use Rattle.mj_mail.specs.Entry.{mail_form}
use Rattle.mj_entry_len.specs.Stored.{stored}
use Rattle.mj_entry_len.proofs.most.mails_most.Given as goal

abbrev pub invariant-loop-mail : goal.invariant-loop-mail
invariant-loop-mail l = stored (4 + length (flat_map mail_form (take l.mail-index l.mails))) ≤ l.total
