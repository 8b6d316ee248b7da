use Rattle.std.proofs.Common.{◌≡◌, drop}
use Rattle.std.specs.Option.{option_copied}
use Rattle.mj_lawful.specs.Machine.{next_behind, next_of}
use Rattle.mj_core_lists.proofs.mails.find_next.Given as goal

abbrev pub invariant-loop-mail : goal.invariant-loop-mail
invariant-loop-mail l = next_behind l.claims (option_copied l.next) (drop l.mail-index l.mails) ≡ next_of l.claims l.mails
