use Rattle.std.proofs.Common.{Some, None}
use Rattle.std.specs.Option.{option_copied}
use Rattle.mj_answers.specs.Places.{is_for_attempt}
use Rattle.mj_answers.proofs.FirstPlaces.{place_of_either}
use Rattle.mj_answers.proofs.answers.Answers.place_at_host.Goals as goal

pub returns : goal.returns
returns c =
    let host = option_copied c.args.host in
    place_of_either (is_for_attempt host (Some c.args.recipient.now) c.args.attempt) (is_for_attempt host None c.args.attempt)
    c.args.self.now c.earlier.result c.place_of_both.result c.place_of_both-2.result c.earlier.ensures c.place_of_both.ensures c.place_of_both-2.ensures
