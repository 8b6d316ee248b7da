use Rattle.std.proofs.Common.{rules, refl}
use Rattle.mj_fields.proofs.Parts.{number_4}
use Rattle.mj_fields.proofs.takes.take_u32.Goals as goal

pub returns-clause-written : goal.returns-clause-written
returns-clause-written c =
    number_4 c.args.bytes.now c.in_ok-field.field.now c.args.at 4 _ (λ i. search (rules, c.type_inv.bytes)) (search rules) (search rules) refl c.from_le_bytes.ensures
