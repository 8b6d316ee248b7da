use Rattle.mj_head_lines.proofs.Bits.{bit-before}
use Rattle.mj_head_lines.proofs.plain.bits_before.Goals as goal

pub returns : goal.returns
returns c k h = bit-before c.args.mask c.args.stop k c.ranges.stop.fits h
