use Rattle.std.proofs.Common.{◌∙◌, sym, ap, arith}
use Rattle.std.proofs.lemmas.Result.{IfOk-weaker}
use Rattle.mj_container.proofs.Fit.{sound_fit}
use Rattle.mj_container.specs.Settling.{answers, settle}
use Rattle.mj_remote.specs.Attempts.{settled_attempt}
use Rattle.mj_remote.specs.Parts.{settled_at}
use Rattle.mj_remote.proofs.Attempts.{sound_tried}
use Rattle.mj_remote.proofs.settling.settle.Goals as goal

pub new-attempt-requires : goal.new-attempt-requires
new-attempt-requires c = (sound_tried c.args.plan.now c.args.mail.now _ _ c.in-Remote.attempt c.in-Remote.is c.requires.mail).first

pub settle_attempt-requires-clause-hops : goal.settle_attempt-requires-clause-hops
settle_attempt-requires-clause-hops c = (sound_fit c.args.plan.now c.args.mail.now c.requires.mail).hops

pub settle_attempt-requires-clause-due : goal.settle_attempt-requires-clause-due
settle_attempt-requires-clause-due c = (sound_fit c.args.plan.now c.args.mail.now c.requires.mail).due

pub settle_attempt-requires-clause-number : goal.settle_attempt-requires-clause-number
settle_attempt-requires-clause-number c =
    omega (arith, c.new-attempt.ensures.number, (sound_tried c.args.plan.now c.args.mail.now _ _ c.in-Remote.attempt c.in-Remote.is c.requires.mail).last)

pub returns-in-Remote : goal.returns-in-Remote
returns-in-Remote c =
    let mail = c.args.mail.now in
    let replies = c.args.replies.now in
    IfOk-weaker c.settle_attempt.result _ _
    (λ outcome is.
    is
    ∙ ap (λ list. settle c.args.plan.now mail (settled_attempt c.new-attempt.result) (answers mail.recipients list)) c.as_slice.ensures
    ∙ ap (λ attempt. settle c.args.plan.now mail attempt (answers mail.recipients replies)) c.new-attempt.ensures.attempt
    ∙ ap (λ stage. settled_at c.args.plan.now mail stage replies) (sym c.in-Remote.is))
    c.settle_attempt.ensures
