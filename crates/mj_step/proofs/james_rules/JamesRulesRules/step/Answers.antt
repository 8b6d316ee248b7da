use Rattle.std.proofs.Common.{◌∙◌, ap}
use Rattle.mj_answers.specs.Fitting.{reply_for}
use Rattle.mj_answers.proofs.Replies.{reply_for_formed}
use Rattle.mj_step.specs.Replied.{are_for}
use Rattle.mj_step.proofs.Replied.{replied}
use Rattle.mj_step.proofs.james_rules.JamesRulesRules.step.Goals as goal

pub step-requires-clause-replies : goal.step-requires-clause-replies
step-requires-clause-replies c =
    let rules = c.args.self.now in
    ap (are_for c.args.mail.now) c.requires.replies ∙ replied (reply_for rules.answers) (reply_for_formed rules.answers rules.formed) c.args.mail.now
