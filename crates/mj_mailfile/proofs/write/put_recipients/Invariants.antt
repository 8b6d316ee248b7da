use Rattle.std.proofs.Common.{◌≡◌, ℕ, List, ◌++◌, drop}
use Rattle.mj_mailfile.specs.Written.{recipients_before}
use Rattle.mj_mailfile.proofs.write.put_recipients.Given as goal

abbrev pub invariant-loop-address : goal.invariant-loop-address
invariant-loop-address l = (rest : List ℕ)
    → l.out.items ++ recipients_before (drop l.address-index l.address-items) rest ≡ l.initial.out.items ++ recipients_before l.address-items rest
