use Rattle.std.proofs.Common.{◌≡◌, ◌∙◌, sym, ap, subst}
use Rattle.std.specs.Prelude.{IfOk}
use Rattle.mj_address.specs.Masks.{left, taken}
use Rattle.mj_mail.specs.Outcome.{both}
use Rattle.mj_container.specs.Running.{leave_failed, parted, served, split}
use Rattle.mj_container.specs.Verdict.{verdict}
use Rattle.mj_mail.specs.declared.fact.Outcome.{Outcome}
use Rattle.mj_mail.specs.declared.mail.Mail.{Mail}
use Rattle.mj_split.specs.Parts.{goes_on}
use Rattle.mj_split.proofs.Masks.{leaves, masked}
use Rattle.mj_split.proofs.Turns.{both_nothing}
use Rattle.mj_split.proofs.step.take_step.Goals as goal

pub returns-in_ok-leave_failed-in-Leaves-clause-outcome : goal.returns-in_ok-leave_failed-in-Leaves-clause-outcome
returns-in_ok-leave_failed-in-Leaves-clause-outcome c on =
    let at = c.args.at in
    let mail = c.args.mail in
    let v = verdict at.plan.now at.step.now mail in
    both_nothing c.leave_failed.new.out
    ∙ c.in_ok-leave_failed-in-Leaves.ensures
    ∙ (λ i. both c.args.out.now (leave_failed at.name.now at.number (c.as_slice.ensures i) c.in-Leaves.state mail))
    ∙ ap (both c.args.out.now) (leaves at.plan.now at.name.now at.number at.step.now mail v c.in-Leaves.state c.in-Leaves.reason (sym c.in_ok-state.ensures ∙ c.in-Leaves.is) on)

pub returns-in-Takes-clause-outcome : goal.returns-in-Takes-clause-outcome
returns-in-Takes-clause-outcome c =
    let at = c.args.at in
    let mail = c.args.mail in
    let rs = mail.recipients in
    let v = verdict at.plan.now at.step.now mail in
    let mask = c.in-Takes.mask in
    let as_one : (λ (on : Mail → Outcome). parted (served at.plan.now at.name.now at.number at.step.now on) on mail (taken c.as_slice-in-Takes.result.now rs) (left c.as_slice-in-Takes.result.now rs))
    ≡ (λ (on : Mail → Outcome). split at.plan.now at.name.now at.number at.step.now on mail v) =
    λ i on.
    ((λ j. parted (served at.plan.now at.name.now at.number at.step.now on) on mail (taken (c.as_slice-in-Takes.ensures j) rs) (left (c.as_slice-in-Takes.ensures j) rs))
    ∙ masked at.plan.now at.name.now at.number at.step.now mail v mask (sym c.in_ok-state.ensures ∙ c.in-Takes.is) on)
    i in
    subst (λ (g : (Mail → Outcome) → Outcome). IfOk c.split.result (λ parts. (on : Mail → Outcome) →
    both c.split.new.out (both (goes_on on parts.served) (goes_on on parts.rest)) ≡ both c.args.out.now (g on))) as_one c.split.ensures.outcome
