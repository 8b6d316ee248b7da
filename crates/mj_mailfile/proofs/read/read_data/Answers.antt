use Rattle.std.proofs.Common.{◌≡◌, [], sym, ◌∙◌}
use Rattle.mj_mailfile.proofs.Lines.{message_is}
use Rattle.mj_mailfile.proofs.read.read_data.Goals as goal

pub returns-then-is_data-clause-exact : goal.returns-then-is_data-clause-exact
returns-then-is_data-clause-exact c =
    let first = c.first_line.ensures.first in
    let some : c.args.found.now ≡ [] → ⊥ = λ none. let empty = c.is_empty.ensures.1 none in cc in
    message_is c.args.found.now c.args.bytes.now first.whole c.first_line.result.0.now c.first_line.result.1.now some first.split first.said (sym c.is_data.ensures ∙ c.if-is_data.true)
