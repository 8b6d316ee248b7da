use Rattle.std.proofs.Common.{◌+◌, length, arith}
use Rattle.std.proofs.lemmas.List.{take_rest, drop_all}
use Rattle.mj_head.proofs.Lines.{first_line_at, first_line_last}
use Rattle.mj_head.proofs.line.first_line.Goals as goal

pub returns-in-Some-clause-first : goal.returns-in-Some-clause-first
returns-in-Some-clause-first c = rw (take_rest c.args.bytes.now (c.in-Some.end + 1), c.without_cr.ensures) (first_line_at c.args.bytes.now c.in-Some.end c.in-Some.ensures)

pub returns-in-None-clause-first : goal.returns-in-None-clause-first
returns-in-None-clause-first c = rw (take_rest c.args.bytes.now (length c.args.bytes.now), drop_all (length c.args.bytes.now) c.args.bytes.now (omega arith)) (first_line_last c.args.bytes.now c.requires c.in-None.ensures)
