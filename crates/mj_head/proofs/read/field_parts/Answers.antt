use Rattle.std.proofs.Common.{◌+◌}
use Rattle.std.proofs.lemmas.List.{take_rest}
use Rattle.mj_head.proofs.Law.{line_parts}
use Rattle.mj_head.proofs.read.field_parts.Goals as goal

pub returns-then-line-end-eq58-clause-parts : goal.returns-then-line-end-eq58-clause-parts
returns-then-line-end-eq58-clause-parts c =
    rw (take_rest c.args.line.now (c.name_len-end.result + 1)) (line_parts c.args.number c.args.line.now c.name_len-end.result c.if-end-gt0.true c.if-end-line.true c.name_len-end.ensures.name c.if-line-end-eq58.true)
