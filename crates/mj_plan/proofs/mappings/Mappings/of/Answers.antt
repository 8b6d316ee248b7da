use Rattle.std.proofs.Common.{◌≡◌, ◌∙◌, ℕ, Option, None, Some, sym, ap}
use Rattle.std.specs.List.{position}
use Rattle.std.specs.Option.{option_copied}
use Rattle.mj_plan.specs.Places.{is_from_domain}
use Rattle.mj_plan.specs.Rewriting.{mapping_of}
use Rattle.mj_plan.proofs.FirstPlaces.{item_at, mapping_at}
use Rattle.mj_plan.proofs.mappings.Mappings.of.Goals.{After-earlier}
use Rattle.mj_plan.proofs.mappings.Mappings.of.Goals as goal

-- the row at the place that the two look-ups lead to
found : (c : After-earlier) (place : Option ℕ) → c.earlier.result ≡ place → item_at c.self.inside.rows place ≡ mapping_of c.args.address.now c.args.self.now
found c place is =
    mapping_at c.args.address.now c.self.inside.rows c.copied-by_address.result c.copied-by_domain.result place
    (c.copied-by_address.ensures ∙ c.get.ensures.value ∙ c.self.invariant.0 c.args.address.now)
    (c.copied-by_domain.ensures ∙ c.get-2.ensures.value ∙ c.self.invariant.1 c.domain.result.now ∙ ap (λ domain. position (is_from_domain domain) c.self.inside.rows) c.domain.ensures.value)
    (sym is ∙ c.earlier.ensures)
    ∙ ap (mapping_of c.args.address.now) c.self.view_is

pub returns-in_err-place : goal.returns-in_err-place
returns-in_err-place c = ap option_copied c.from_residual.ensures ∙ found (goal.at.returns-in_err-place c).After-earlier None c.in_err-place.was

pub returns : goal.returns
returns c = c.get-3.ensures ∙ found (goal.at.returns c).After-earlier (Some c.in_ok-place.place) c.in_ok-place.was
