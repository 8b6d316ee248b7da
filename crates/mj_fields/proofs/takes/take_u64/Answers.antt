use Rattle.std.proofs.Common.{rules, refl}
use Rattle.mj_fields.proofs.Parts.{number_8}
use Rattle.mj_fields.proofs.takes.take_u64.Goals as goal

pub returns-clause-written : goal.returns-clause-written
returns-clause-written c =
    number_8 c.args.bytes.now c.in_ok-field.field.now c.args.at 8 _ (λ i. search (rules, c.type_inv.bytes)) (search rules) (search rules) refl c.from_le_bytes.ensures
