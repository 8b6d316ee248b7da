use Rattle.std.proofs.Common.{◌∙◌, None, Some, slice_get, sym, ap}
use Rattle.std.specs.Option.{option_copied}
use Rattle.mj_answers.specs.Fitting.{fits}
use Rattle.mj_answers.proofs.FirstPlaces.{row_at}
use Rattle.mj_answers.proofs.answers.Answers.row_for.Goals as goal

pub returns-in_err-place : goal.returns-in_err-place
returns-in_err-place c =
    ap option_copied c.from_residual.ensures
    ∙ row_at (fits c.args.host.now c.args.recipient.now c.args.attempt) c.args.self.now None (sym c.in_err-place.was ∙ c.place_for.ensures)

pub returns : goal.returns
returns c =
    c.get.ensures
    ∙ ap (λ rows. slice_get rows c.in_ok-place.place) c.self.view_is
    ∙ row_at (fits c.args.host.now c.args.recipient.now c.args.attempt) c.args.self.now (Some c.in_ok-place.place) (sym c.in_ok-place.was ∙ c.place_for.ensures)
