use Rattle.std.proofs.Common.{◌∙◌, sym, ap}
use Rattle.std.specs.List.{list_all}
use Rattle.std.specs.Option.{option_copied}
use Rattle.mj_answers.specs.Fitting.{fits}
use Rattle.mj_answers.specs.Places.{has_reply}
use Rattle.mj_answers.proofs.FirstPlaces.{row_formed}
use Rattle.mj_answers.proofs.answers.Answers.reply_for.Goals as goal

pub returns-in-Some-clause-form : goal.returns-in-Some-clause-form
returns-in-Some-clause-form c =
    row_formed (fits c.args.host.now c.args.recipient.now c.args.attempt) c.args.self.now c.in-Some.row.now
    (ap option_copied (sym c.in-Some.is) ∙ c.row_for.ensures)
    (ap (list_all has_reply) (sym c.self.view_is) ∙ c.self.invariant.2)
