use Rattle.std.proofs.Common.{◌∙◌, Some, ap, cond}
use Rattle.indexmap.specs.IndexMap.{get}
use Rattle.mj_answers.specs.contracts.keys.KeysEq.TheImpl.Laws.{laws-law}
use Rattle.mj_answers.specs.Places.{same_keys}
use Rattle.mj_answers.proofs.answers.put_place.Goals as goal

pub returns : goal.returns
returns c wanted =
    let before = get same_keys c.args.places.now wanted in
    c.in_ok-insert.ensures.updates.0 wanted
    ∙ ap (λ same. cond same (Some c.args.place) before) (laws-law.symm c.in_ok-of_row.field-0 wanted)
    ∙ ap (λ keys. cond (same_keys wanted keys) (Some c.args.place) before) c.in_ok-of_row.ensures
