use Rattle.std.proofs.lemmas.Result.{err_from_is_err_and}
use Rattle.mj_container.specs.Expansion.{rewritten}
use Rattle.mj_rewrite.proofs.Turns.{stays, goes_on}
use Rattle.mj_rewrite.proofs.addresses.rewrite.Goals as goal

pub returns-in_err-rewrite_one : goal.returns-in_err-rewrite_one
returns-in_err-rewrite_one c =
    let p = err_from_is_err_and c.from_residual.result c.from_residual.ensures.1 in
    rw (p.1, p.2) (stays c.args.plan.now.mappings c.loop-recipient.found c.as_slice-recipient-items.result.now c.loop-recipient.recipient-index c.recipient-item.result
    c.loop-recipient-test.true c.recipient-item.is c.in_err-rewrite_one.field-0.0 (rewritten c.args.plan.now.mappings c.args.recipients.now) c.loop-recipient.invariant c.in_err-rewrite_one.ensures)

pub loop-recipient-preserved : goal.loop-recipient-preserved
loop-recipient-preserved c =
    goes_on c.args.plan.now.mappings c.loop-recipient.found c.as_slice-recipient-items.result.now c.loop-recipient.recipient-index c.recipient-item.result
    c.loop-recipient-test.true c.recipient-item.is c.rewrite_one.new.found (rewritten c.args.plan.now.mappings c.args.recipients.now) c.loop-recipient.invariant c.in_ok-rewrite_one.ensures
