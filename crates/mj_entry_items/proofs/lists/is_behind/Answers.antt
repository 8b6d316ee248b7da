use Rattle.std.proofs.Common.{rules, ◌≡◌, ◌-◌, length, slice_get, Some, ◌∙◌}
use Rattle.mj_entry_items.proofs.Ascending.{last_before}
use Rattle.mj_entry_items.specs.Names.{is_before}
use Rattle.mj_entry_items.proofs.lists.is_behind.Goals as goal

pub returns-in-Some : goal.returns-in-Some
returns-in-Some c =
    let attributes = c.args.attributes.now in
    let at : slice_get attributes (length attributes - 1) ≡ Some c.in-Some.field-0.now = search rules in
    let test : c.is_lt.result ≡ is_before c.args.name.now c.in-Some.field-0.now = search rules in
    test ∙ last_before attributes c.in-Some.field-0.now c.args.name.now c.requires.ascending at
