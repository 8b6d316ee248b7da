use Rattle.std.proofs.Common.{ℕ, not, eqb, leb, cond, bit_and, refl}
use Rattle.std.proofs.lemmas.Simd.{zip2_splat}
use Rattle.mj_head_lines.specs.Lines.{is_name_byte}
use Rattle.mj_head_lines.proofs.Bits.{marked_by_byte, joined, from_splat}
use Rattle.mj_head_lines.proofs.plain.marks_of_name_bytes.Goals as goal

pub returns : goal.returns
returns c =
    let v = c.args.block in
    let long = c.fits-block.0 in
    let at_most = λ (a b : ℕ). cond (leb a b) 255 0 in
    let other = λ (a b : ℕ). cond (not (eqb a b)) 255 0 in
    marked_by_byte _ is_name_byte v _ c.fits-block (joined bit_and _ _ v (joined bit_and _ _ v (from_splat at_most 33 64 v long) (zip2_splat at_most v 64 126 long)) (zip2_splat other v 64 58 long)) refl
