use Rattle.std.proofs.Common.{arith}
use Rattle.mj_match.proofs.Decimals.{digit_at, next_digit, power_of_ten}
use Rattle.mj_match.proofs.numerals.value_of.Goals as goal

pub overflow_mul-value : goal.overflow_mul-value
overflow_mul-value c =
    let i = c.loop-byte.byte-index in
    omega (arith, power_of_ten i (omega arith))

pub overflow_add-value : goal.overflow_add-value
overflow_add-value c =
    let i = c.loop-byte.byte-index in
    omega (arith, power_of_ten i (omega arith), digit_at c.args.text.now i c.requires.digits (omega arith), c.from.ensures)

pub loop-byte-preserved : goal.loop-byte-preserved
loop-byte-preserved c =
    let i = c.loop-byte.byte-index in
    let d = digit_at c.args.text.now i c.requires.digits (omega arith) in
    record {
      value = omega (arith, next_digit c.args.text.now i c.requires.digits (omega arith), d, c.from.ensures);
      small = omega (arith, power_of_ten i (omega arith), d, c.from.ensures);
    }
