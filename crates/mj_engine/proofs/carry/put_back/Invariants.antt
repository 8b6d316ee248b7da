use Rattle.std.proofs.Common.{◌≡◌, ◌++◌, length}
use mathlib.Core.List.{reverse}
use Rattle.mj_engine.proofs.carry.put_back.Given as goal

abbrev pub invariant-loop-mail : goal.invariant-loop-mail
invariant-loop-mail l = l.waiting ++ reverse l.mails ≡ l.initial.waiting ++ reverse l.fn.mails

abbrev pub decreases-loop-mail : goal.decreases-loop-mail
decreases-loop-mail l = length l.mails
