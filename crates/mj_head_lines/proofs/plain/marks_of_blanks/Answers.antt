use Rattle.std.proofs.Common.{ℕ, refl}
use Rattle.std.proofs.lemmas.Simd.{zip2_splat}
use Rattle.mj_terms.specs.Text.{is_blank}
use Rattle.mj_head_lines.proofs.Bits.{marked_by_byte, joined}
use Rattle.mj_head_lines.proofs.plain.marks_of_blanks.Goals as goal

pub returns : goal.returns
returns c =
    let v = c.args.block in
    marked_by_byte _ is_blank v _ c.fits-block (joined _ _ _ v (zip2_splat {Y = ℕ} _ v 64 32 c.fits-block.0) (zip2_splat {Y = ℕ} _ v 64 9 c.fits-block.0)) refl
