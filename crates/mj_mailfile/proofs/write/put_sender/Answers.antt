use Rattle.std.proofs.Common.{ap, sym, ◌++◌, ◌∙◌, codes}
use Rattle.std.proofs.lemmas.Result.{on_ok_weaker}
use Rattle.mj_address.specs.Reading.{spelled}
use Rattle.mj_mailfile.specs.Written.{ended, sender_text}
use Rattle.mj_mailfile.proofs.Again.{line_put}
use Rattle.mj_mailfile.proofs.write.put_sender.Goals as goal

pub returns-in-Some-clause-line : goal.returns-in-Some-clause-line
returns-in-Some-clause-line c =
    on_ok_weaker c.put_address_line.result
    (λ written rest.
    ap (λ text. text ++ rest) written
    ∙ line_put c.args.out.now.items (codes "MAIL FROM:") (spelled c.in-Some.address) rest
    ∙ ap (λ sender. c.args.out.now.items ++ ended (sender_text sender) rest) (sym c.in-Some.is))
    c.put_address_line.ensures.line
