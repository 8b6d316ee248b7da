-- A mail that keeps the limits, part by part, may be accepted.
use Rattle.std.proofs.Common.{◌≡◌, ◌≤◌, true, length, arith}
use Rattle.std.specs.Prelude.{nat_le}
use Rattle.std.proofs.lemmas.Bool.Decides.{nat_tests}
use Rattle.std.specs.List.{list_all}
use Rattle.mj_address.specs.Short.{is_short}
use Rattle.mj_head.specs.Head.{written}
use Rattle.mj_mail.specs.declared.limits.TheConstants.{MAX_BODY, MAX_HEAD, MAX_RECIPIENTS}
use Rattle.mj_mail.specs.declared.mail.NewMail.{NewMail}
use Rattle.mj_mail.specs.Rules.{is_acceptable, is_short_sender}

pub acceptable : (mail : NewMail) → 1 ≤ length mail.recipients → length mail.recipients ≤ MAX_RECIPIENTS → list_all is_short mail.recipients ≡ true → is_short_sender mail.sender ≡ true → length (written mail.head) ≤ MAX_HEAD
    → length mail.body ≤ MAX_BODY → is_acceptable mail ≡ true
acceptable mail some few short sender head body =
    let a : nat_le 1 (length mail.recipients) ≡ true = grind (arith, nat_tests, some) in
    let b : nat_le (length mail.recipients) MAX_RECIPIENTS ≡ true = grind (arith, nat_tests, few) in
    let c : nat_le (length (written mail.head)) MAX_HEAD ≡ true = grind (arith, nat_tests, head) in
    let d : nat_le (length mail.body) MAX_BODY ≡ true = grind (arith, nat_tests, body) in
    rw (a, b, short, sender, c, d)
