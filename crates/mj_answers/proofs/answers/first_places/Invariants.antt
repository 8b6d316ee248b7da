use Rattle.mj_answers.proofs.FirstPlaces.{HasPlacesFrom}
use Rattle.mj_answers.proofs.answers.first_places.Given as goal

-- the rows from this place on are put
abbrev pub invariant-loop-place : goal.invariant-loop-place
invariant-loop-place l = HasPlacesFrom l.place l.rows l.places
