use Rattle.std.proofs.Common.{◌≤◌, arith}
use Rattle.std.proofs.Math.Nat.{pow-le-pow_right}
use Rattle.mj_delays.proofs.Numerals.{digit_at, next_digit, power_of_ten}
use Rattle.mj_delays.proofs.digits.value_of.Goals as goal

pub overflow_mul-value : goal.overflow_mul-value
overflow_mul-value c =
    let i = c.loop-byte.byte-index in
    omega (arith, power_of_ten i (omega arith))

pub overflow_add-value : goal.overflow_add-value
overflow_add-value c =
    let i = c.loop-byte.byte-index in
    omega (arith, power_of_ten i (omega arith), digit_at c.args.text.now i c.requires.digits (omega arith), c.from.ensures)

pub loop-byte-preserved : goal.loop-byte-preserved
loop-byte-preserved c =
    let i = c.loop-byte.byte-index in
    let d = digit_at c.args.text.now i c.requires.digits (omega arith) in
    record {
      value = omega (arith, next_digit c.args.text.now i c.requires.digits (omega arith), d, c.from.ensures);
      small = omega (arith, power_of_ten i (omega arith), d, c.from.ensures);
    }

pub returns-clause-small : goal.returns-clause-small
returns-clause-small c =
    let le : c.loop-byte.byte-index ≤ 9 = omega arith in
    omega (arith, pow-le-pow_right {n = 10} (omega arith) le, c.loop-byte.invariant.small)
