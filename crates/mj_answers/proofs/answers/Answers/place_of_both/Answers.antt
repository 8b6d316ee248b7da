use Rattle.std.proofs.Common.{Some, None}
use Rattle.std.specs.Option.{option_copied}
use Rattle.mj_answers.specs.Places.{is_at}
use Rattle.mj_answers.proofs.FirstPlaces.{place_of_either}
use Rattle.mj_answers.proofs.answers.Answers.place_of_both.Goals as goal

pub returns : goal.returns
returns c =
    let host = option_copied c.args.host in
    let recipient = option_copied c.args.recipient in
    place_of_either (is_at (record { host = host; recipient = recipient; attempt = Some c.args.attempt }))
    (is_at (record { host = host; recipient = recipient; attempt = None }))
    c.args.self.now c.earlier.result c.place-numbered.result c.place-of_any.result c.earlier.ensures c.place-numbered.ensures c.place-of_any.ensures
