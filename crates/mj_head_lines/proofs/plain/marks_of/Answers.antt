use Rattle.std.proofs.Common.{eqb}
use Rattle.std.proofs.lemmas.Simd.{zip2_splat}
use Rattle.mj_head_lines.proofs.Bits.{marked, top_of_cond}
use Rattle.mj_head_lines.proofs.plain.marks_of.Goals as goal

pub returns : goal.returns
returns c =
    let v = c.args.block in
    let byte = c.args.byte in
    marked _ (λ x. eqb x byte) v _ c.fits-block (zip2_splat _ v 64 byte c.fits-block.0) (λ x _. top_of_cond (eqb x byte))
