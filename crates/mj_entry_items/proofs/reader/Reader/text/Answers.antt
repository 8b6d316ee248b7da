use Rattle.std.proofs.Common.{rules, ◌≡◌, Some, sym, ap, ◌∙◌}
use Rattle.mj_fields.specs.Fields.{string_at}
use Rattle.mj_entry_rows.specs.Readings.{string_in}
use Rattle.mj_entry_items.proofs.Fronts.{text_front}
use Rattle.mj_entry_items.proofs.reader.Reader.text.Goals as goal

pub returns-clause-text : goal.returns-clause-text
returns-clause-text c =
    let bytes = c.self.inside.rest.now in
    let found : string_at bytes 0 ≡ Some (c.in_ok-text.text.now, c.in_ok-text.behind) = search (rules, sym c.take_bytes.ensures.value) in
    let whole : c.args.self.now ≡ bytes = search rules in
    ap string_in whole ∙ text_front bytes c.in_ok-text.text.now c.in_ok-text.behind found
