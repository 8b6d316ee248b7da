use Rattle.std.proofs.Common.{◌∙◌}
use Rattle.std.proofs.lemmas.Result.{IfOk-weaker}
use Rattle.mj_time.proofs.DateLines.{line_from_pieces}
use Rattle.mj_time.proofs.dates.line.Goals as goal

pub returns : goal.returns
returns c =
    let parts = c.args.parts in
    IfOk-weaker c.joined.result _ _
    (λ text e. e ∙ line_from_pieces c.weekday_name.result.now c.two_digits.result c.month_name.result.now c.two_digits-2.result c.two_digits-3.result c.two_digits-4.result c.two_digits-5.result c.two_digits-6.result _ parts.year parts.month parts.day parts.second c.weekday_name.ensures c.two_digits.ensures c.month_name.ensures c.two_digits-2.ensures c.two_digits-3.ensures c.two_digits-4.ensures c.two_digits-5.ensures c.two_digits-6.ensures)
    c.joined.ensures
