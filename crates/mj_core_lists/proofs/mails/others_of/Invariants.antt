use Rattle.std.proofs.Common.{◌≡◌, ◌++◌, drop}
use Rattle.mj_lawful.proofs.Pending.{without}
use Rattle.mj_core_lists.proofs.mails.others_of.Given as goal

abbrev pub invariant-loop-mail : goal.invariant-loop-mail
invariant-loop-mail l = l.others ++ without l.name (drop l.mail-index l.mails) ≡ without l.name l.mails
