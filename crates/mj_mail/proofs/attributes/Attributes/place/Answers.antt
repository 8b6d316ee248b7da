use Rattle.std.proofs.Common.{rules, of_calls}
use Rattle.std.proofs.lemmas.Fn.{always_returns_same}
use Rattle.mj_mail.proofs.AttributeLists.{found_from, gap_from}
use Rattle.mj_mail.specs.Attributes.{byte_order}
use Rattle.mj_mail.proofs.attributes.Attributes.place.Goals as goal

pub returns-clause-found : goal.returns-clause-found
returns-clause-found c =
    let held = c.binary_search_by.ensures.position (λ pair. byte_order pair.0 c.args.name.now) (always_returns_same _ _ _ (λ a r f k. search (rules, of_calls))) in
    rw (← c.self.view_is, ← c.deref.ensures.value) (found_from c.deref.result.now c.args.name.now _ c.binary_search_by.ensures.bound held)

pub returns-clause-gap : goal.returns-clause-gap
returns-clause-gap c =
    let held = c.binary_search_by.ensures.position (λ pair. byte_order pair.0 c.args.name.now) (always_returns_same _ _ _ (λ a r f k. search (rules, of_calls))) in
    let same = c.deref.ensures.value in
    rw (← c.self.view_is, ← same) (gap_from c.deref.result.now c.args.name.now _ (rw same c.self.invariant.ascending) held)
