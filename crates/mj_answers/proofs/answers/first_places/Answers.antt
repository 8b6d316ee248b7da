use Rattle.mj_answers.proofs.FirstPlaces.{all_rows}
use Rattle.mj_answers.proofs.answers.first_places.Goals as goal

pub returns : goal.returns
returns c = all_rows c.args.rows.now c.loop-place.place c.loop-place.places c.loop-place-test.false c.loop-place.invariant
