use Rattle.mj_head.proofs.Names.{name_value-lt}
use Rattle.mj_head.proofs.read.spaced_parts.Goals as goal

pub returns-clause-short : goal.returns-clause-short
returns-clause-short c =
    rw (c.trim_end_blanks-name.ensures, ← c.in-Some.ensures.1, ← c.in-Some.ensures.2) (name_value-lt c.args.line.now c.in-Some.ensures.0)
