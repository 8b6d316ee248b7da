use Rattle.mj_head_lines.proofs.Bits.{bit-begins}
use Rattle.mj_head_lines.proofs.plain.starts.Goals as goal

pub returns : goal.returns
returns c k h = bit-begins c.args.ends k h
