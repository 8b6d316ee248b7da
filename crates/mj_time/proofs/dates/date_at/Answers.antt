use Rattle.std.proofs.Common.{◌≡◌, pos, ◌+ℤ◌, ◌∙◌, arith, w64, ap, subst, IfOk}
use Rattle.jiff_core.specs.declared.unit.Unit.TheVariants.{Day}
use Rattle.jiff_core.specs.Calendar.{IsEpochDay}
use Rattle.jiff_core.specs.Date.{epoch_day}
use Rattle.jiff_core.specs.Span.{IsOnly}
use Rattle.jiff_core.proofs.SignedLemmas.{back_small, signed_arith}
use Rattle.jiff_core.proofs.StandardFacts.{known_days}
use Rattle.jiff.specs.Words.{date_add}
use Rattle.jiff.proofs.SpanFacts.{date_add-days, can_add-days}
use Rattle.mj_time.proofs.Days.{epoch_day_is}
use Rattle.mj_time.proofs.dates.date_at.Goals as goal

pub unwrap-requires : goal.unwrap-requires
unwrap-requires c =
    let day = pos c.args.day in
    let only : IsOnly Day day c.days.result = subst (λ z. IsOnly Day z c.days.result) (back_small w64 day (omega arith)) c.days.ensures in
    let epoch : epoch_day c.date.result ≡ pos 0 = epoch_day_is c.date.result 1970 1 1 c.date.ensures ∙ known_days.0 in
    let in_calendar : IsEpochDay (epoch_day c.date.result +ℤ day) = rw epoch (omega (arith, signed_arith), omega (arith, signed_arith)) in
    c.checked_add.ensures.succeeds.1 ((can_add-days c.date.result day c.days.result only).1 in_calendar)

pub returns : goal.returns
returns c =
    let day = pos c.args.day in
    let only : IsOnly Day day c.days.result = subst (λ z. IsOnly Day z c.days.result) (back_small w64 day (omega arith)) c.days.ensures in
    let epoch : epoch_day c.date.result ≡ pos 0 = epoch_day_is c.date.result 1970 1 1 c.date.ensures ∙ known_days.0 in
    let value = subst (λ r. IfOk r (λ d. epoch_day d ≡ date_add c.date.result c.days.result)) c.unwrap.ensures c.checked_add.ensures.value in
    let zero : pos 0 +ℤ day ≡ day = omega (arith, signed_arith) in
    value ∙ date_add-days c.date.result day c.days.result only ∙ ap (λ z. z +ℤ day) epoch ∙ zero
