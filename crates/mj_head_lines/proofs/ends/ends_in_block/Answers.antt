use Rattle.std.proofs.Common.{◌≡◌, ℕ, suc, ◌-◌, ◌*◌, ◌%◌, ◌^◌, ◌<◌, false, ◌&&◌, not, ap, ap₂, ◌∙◌, arith, bit_and}
use Rattle.std.proofs.lemmas.Nat.{and_le_r}
use Rattle.mj_head_lines.specs.Plain.{has_bit}
use Rattle.mj_head_lines.proofs.Bits.{bit-and, bit-not, bit-up}
use Rattle.mj_head_lines.proofs.FieldEnds.{in_block}
use Rattle.mj_head_lines.proofs.ends.ends_in_block.Goals as goal

pub returns : goal.returns
returns c =
    let m = c.masks_of-masks.result in
    let blank-fits : m.blank < 2 ^ 64 = omega arith in
    let up : ℕ = m.lf * 2 ^ 1 % 2 ^ 64 in
    let mask : ℕ = bit_and up (2 ^ 64 - 1 - m.blank) in
    let first : has_bit mask 0 ≡ false =
    bit-and up _ 0 ∙ ap (λ b. b && has_bit (2 ^ 64 - 1 - m.blank) 0) (bit-up m.lf 0 (omega arith)) in
    in_block c.args.text.now mask c.requires first
    (λ k small. bit-and up _ (suc k) ∙ ap₂ (λ a b. a && b)
    (bit-up m.lf (suc k) (omega arith) ∙ c.masks_of-masks.ensures.lf.each k (omega arith))
    (bit-not m.blank (suc k) blank-fits (omega arith) ∙ ap not (c.masks_of-masks.ensures.blank.each (suc k) (omega arith))))
    (omega (arith, and_le_r up (2 ^ 64 - 1 - m.blank)))
