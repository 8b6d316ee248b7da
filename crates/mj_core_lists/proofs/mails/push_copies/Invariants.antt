use Rattle.std.proofs.Common.{◌≡◌, ◌++◌, take}
use Rattle.mj_core_lists.proofs.mails.push_copies.Given as goal

abbrev pub invariant-loop-mail : goal.invariant-loop-mail
invariant-loop-mail l = l.mails ≡ l.initial.mails ++ take l.mail-index l.more
