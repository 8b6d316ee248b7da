use Rattle.std.proofs.Common.{sym}
use Rattle.mj_head.proofs.Names.{trimmed_at, all_blank, trim_back_blank}
use Rattle.mj_head.proofs.read.trim_end_blanks.Goals as goal

pub returns-in-Some : goal.returns-in-Some
returns-in-Some c = trimmed_at c.args.text.now c.in-Some.last c.in-Some.ensures

pub returns-in-None : goal.returns-in-None
returns-in-None c = sym (trim_back_blank c.args.text.now (all_blank c.args.text.now c.in-None.ensures))
