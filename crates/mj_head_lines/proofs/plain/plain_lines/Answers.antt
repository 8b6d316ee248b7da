use Rattle.mj_head_lines.proofs.Count.{lines_of}
use Rattle.mj_head_lines.proofs.plain.plain_lines.Goals as goal

pub returns-clause-lines : goal.returns-clause-lines
returns-clause-lines c = lines_of c.args.text.now c.plain_ends-ends.result c.plain_ends-ends.type_inv c.plain_ends-ends.ensures
