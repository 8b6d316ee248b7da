use Rattle.std.proofs.Common.{◌≡◌, ◌++◌, take}
use Rattle.mj_mail.specs.Line.{recipients_text}
use Rattle.mj_mail.proofs.line.put_recipients.Given as goal

abbrev pub invariant-loop-k : goal.invariant-loop-k
invariant-loop-k l = l.out ≡ l.initial.out ++ recipients_text (take l.k l.recipients)
