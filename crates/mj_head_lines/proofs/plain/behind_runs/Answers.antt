use Rattle.mj_head_lines.proofs.Bits.{bit-behind}
use Rattle.mj_head_lines.proofs.plain.behind_runs.Goals as goal

pub returns : goal.returns
returns c start end l h set run over = bit-behind c.args.runs c.args.from start end c.ranges.runs.fits l h set run over
