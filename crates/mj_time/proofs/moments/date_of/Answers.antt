use Rattle.std.proofs.Common.{sym, ◌∙◌}
use Rattle.mj_time.proofs.Days.{date_from_test, test_from_date, same_date, same_test, signed_parts}
use Rattle.mj_time.proofs.moments.date_of.Goals as goal

pub returns-clause-exists : goal.returns-clause-exists
returns-clause-exists c =
    let f = c.args.fields.now in
    let parts = signed_parts f c.requires in
    let succeeds = c.new.ensures.succeeds in
    c.ok.ensures.variant
    ∙ same_test _ _
    (λ ok. test_from_date f (same_date _ _ _ _ _ _ parts.0 parts.1 parts.2 (succeeds.0 ok)))
    (λ e. succeeds.1 (same_date _ _ _ _ _ _ (sym parts.0) (sym parts.1) (sym parts.2) (date_from_test f c.requires e)))
