use Rattle.std.proofs.Common.{[], ◌∷◌, ◌++◌}
use Rattle.mj_entry_items.proofs.NextFields.{is_some}
use Rattle.mj_entry_items.proofs.lists.add_field.Goals as goal

pub returns-clause-answer : goal.returns-clause-answer
returns-clause-answer c = is_some c.add_raw.result (c.args.head.now ++ (c.args.name.now, c.args.body.now) ∷ []) c.add_raw.ensures.answer
