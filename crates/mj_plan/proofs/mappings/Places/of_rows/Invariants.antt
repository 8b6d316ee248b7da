use Rattle.mj_terms.specs.Text.{same_text}
use Rattle.mj_address.specs.Same.{same_address}
use Rattle.mj_plan.specs.Places.{is_from_address, is_from_domain}
use Rattle.mj_plan.proofs.FirstPlaces.{HasPlacesFrom}
use Rattle.mj_plan.proofs.mappings.Places.of_rows.Given as goal

-- the rows from this place on are put
abbrev pub invariant-loop-place : goal.invariant-loop-place
invariant-loop-place l = record {
  addresses : HasPlacesFrom same_address is_from_address l.place l.rows l.places.by_address;
  domains : HasPlacesFrom same_text is_from_domain l.place l.rows l.places.by_domain;
}
