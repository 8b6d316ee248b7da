use Rattle.mj_terms.specs.Text.{same_text}
use Rattle.mj_address.specs.Same.{same_address}
use Rattle.mj_plan.specs.Places.{is_from_address, is_from_domain}
use Rattle.mj_plan.proofs.FirstPlaces.{all_rows}
use Rattle.mj_plan.proofs.mappings.Places.of_rows.Goals as goal

pub returns-clause-addresses : goal.returns-clause-addresses
returns-clause-addresses c =
    all_rows same_address is_from_address c.args.rows.now c.loop-place.place c.loop-place.places.by_address c.loop-place-test.false c.loop-place.invariant.addresses

pub returns-clause-domains : goal.returns-clause-domains
returns-clause-domains c =
    all_rows same_text is_from_domain c.args.rows.now c.loop-place.place c.loop-place.places.by_domain c.loop-place-test.false c.loop-place.invariant.domains
