use Rattle.std.proofs.Common.{◌≡◌, drop}
use Rattle.std.specs.List.{list_all}
use Rattle.mj_core_lists.proofs.mails.all_allowed.Given as goal

abbrev pub invariant-loop-mail : goal.invariant-loop-mail
invariant-loop-mail g l = let test = g.R.Stages.is_allowed l.rules in list_all test (drop l.mail-index l.mails) ≡ list_all test l.mails
