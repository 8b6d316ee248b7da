use Rattle.std.proofs.Common.{◌≡◌, List, length, replicate, ap, ◌∙◌}
use Rattle.mj_container.specs.Matching.{Mailbox, holds}
use Rattle.mj_match.proofs.Lists.{answers, one_for_all}
use Rattle.mj_match.proofs.conditions.truths_of_condition.Goals as goal

-- a condition that doesn't look at the recipient holds for all or for none
pub returns-in_ok-truth-in_default : goal.returns-in_ok-truth-in_default
returns-in_ok-truth-in_default c =
    let truth = c.in_ok-truth-in_default.truth in
    let same : (r : Mailbox) → holds c.args.plan.now c.args.mail.now r c.args.condition.now ≡ truth = λ r. c.in_ok-truth-in_default.ensures c.args.plan.now r in
    answers c.all.result
    (ap (λ (recipients : List Mailbox). replicate (length recipients) truth) c.as_slice-recipients.ensures.value
    ∙ one_for_all (λ (r : Mailbox). holds c.args.plan.now c.args.mail.now r c.args.condition.now) truth same c.args.mail.now.recipients)
    c.all.ensures
