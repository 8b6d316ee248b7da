use Rattle.std.proofs.Common.{◌∙◌, sym}
use Rattle.std.proofs.lemmas.Result.{IfOk-weaker}
use Rattle.mj_time.specs.DateText.{line_of, day_number, second_of_day}
use Rattle.mj_time.proofs.Civil.{line_is}
use Rattle.mj_time.proofs.dates.date_text.Goals as goal

pub returns-clause-text : goal.returns-clause-text
returns-clause-text c =
    let date = c.date_at-date.result in
    let moment = c.args.moment in
    let parts = c.parts_of.ensures in
    IfOk-weaker c.line.result _ _
    (λ text e. e ∙ (λ k. line_of (c.weekday.ensures k) (parts.year k) (parts.month k) (parts.day k) (parts.second k)) ∙ line_is date (day_number moment) (second_of_day moment) c.date_at-date.ensures)
    c.line.ensures

pub returns-clause-civil : goal.returns-clause-civil
returns-clause-civil c =
    let moment = c.args.moment in
    IfOk-weaker c.line.result _ _
    (λ text e d day. e ∙ sym (line_is d (day_number moment) (second_of_day moment) day))
    (returns-clause-text c)
