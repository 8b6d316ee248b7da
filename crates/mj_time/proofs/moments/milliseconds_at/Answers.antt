use Rattle.std.proofs.Common.{arith}
use Rattle.mj_time.proofs.Bounds.{clock, day_below}
use Rattle.mj_time.proofs.Days.{not_negative, late_year}
use Rattle.mj_time.proofs.moments.milliseconds_at.Goals as goal

pub day_number-day-requires : goal.day_number-day-requires
day_number-day-requires c =
    let f = c.args.fields.now in
    not_negative c.args.date f.year f.month f.day c.requires.date (late_year f c.requires.late)

pub returns-clause-bound : goal.returns-clause-bound
returns-clause-bound c =
    let f = c.args.fields.now in
    let day = day_below c.args.date f c.day_number-day.result c.day_number-day.ensures.value c.requires.date c.requires.late in
    let seconds = clock f.hour f.minute f.second c.requires.time in
    omega (arith, day, seconds)
