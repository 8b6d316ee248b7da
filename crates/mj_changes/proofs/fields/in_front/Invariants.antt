use Rattle.std.proofs.Common.{◌≡◌, ◌++◌, ◌∷◌, drop}
use Rattle.mj_container.specs.Changes.{on_one_line}
use Rattle.mj_changes.proofs.fields.in_front.Given as goal

abbrev pub invariant-loop-b : goal.invariant-loop-b
invariant-loop-b l = l.value.items ++ on_one_line (drop l.b-index l.text) ≡ l.prefix ++ 32 ∷ on_one_line l.text
