use Rattle.std.proofs.Common.{◌≡◌, ◌∙◌, Result, Ok, Err, sym, ap, subst}
use Rattle.std.specs.Prelude.{IfOk}
use Rattle.mj_mail.specs.Outcome.{numbered}
use Rattle.mj_container.specs.Alone.{IsAsAlone}
use Rattle.mj_container.proofs.Alone.{as_alone}
use Rattle.mj_split.proofs.run.run_processor.Goals as goal

-- what follows from a fact about an answer
follows : {T E : Type 0} (result : Result T E) (P Q : T → Type 0) → ((x : T) → P x → Q x) → IfOk result P → IfOk result Q
follows (Ok x) P Q next h = next x h
follows (Err e) P Q next h = tt

pub returns-clause-run : goal.returns-clause-run
returns-clause-run c = subst (λ o. IfOk c.numbered.result (λ outcome. outcome ≡ numbered o)) c.in_ok-outcome.ensures c.numbered.ensures

pub returns-clause-alone : goal.returns-clause-alone
returns-clause-alone c =
    follows c.numbered.result _ _
    (λ outcome is plain r has.
    subst (λ o. IsAsAlone c.args.plan.now c.args.processor.now c.args.mail o r) (sym (is ∙ ap numbered c.in_ok-outcome.ensures))
    (as_alone c.args.plan.now c.args.processor.now c.args.mail plain c.len-different.ensures.form.different r has))
    c.numbered.ensures
