-- Decimal digits, one after another, as far as 64 bits hold them.
use Rattle.std.proofs.Common.{◌≡◌, ℕ, ◌+◌, ◌*◌, ◌^◌, ◌<◌, ◌≤◌, true, List, length, get_or, take, arith}
use Rattle.std.proofs.Math.Nat.{pow-le-pow_right}
use Rattle.std.specs.List.{list_all}
use Rattle.std.specs.Char.{is_ascii_digit, digit_value}
use Rattle.std.specs.Str.Parse.{digits_value}
use Rattle.std.proofs.lemmas.Bool.Decides.{nat_tests}
use Rattle.std.proofs.lemmas.Grind.{pow_more}
use Rattle.std.proofs.lemmas.Int.Digits.{digits_value_more}
use Rattle.std.proofs.lemmas.List.Folds.{list_all_at}

true_at : (xs : List ℕ) (i : ℕ) → list_all is_ascii_digit xs ≡ true → i < length xs → is_ascii_digit (get_or xs i 0) ≡ true
true_at xs i h lt = grind (arith, list_all_at is_ascii_digit xs i 0 lt)

digit_number : (d : ℕ) → is_ascii_digit d ≡ true → (48 ≤ d) × (d ≤ 57) × (digit_value d + 48 ≡ d)
digit_number d h = (grind (arith, nat_tests), grind (arith, nat_tests), grind (arith, nat_tests))

-- each byte of a numeral is a digit
pub digit_at : (xs : List ℕ) (i : ℕ) → list_all is_ascii_digit xs ≡ true → i < length xs → (48 ≤ get_or xs i 0) × (get_or xs i 0 ≤ 57)
digit_at xs i h lt = let n = digit_number (get_or xs i 0) (true_at xs i h lt) in (n.0, n.1)

-- a further digit makes ten times the number and the digit's own
pub next_digit : (xs : List ℕ) (i : ℕ) → list_all is_ascii_digit xs ≡ true → i < length xs → digits_value 10 (take (i + 1) xs) + 48 ≡ digits_value 10 (take i xs) * 10 + get_or xs i 0
next_digit xs i h lt =
    let n = digit_number (get_or xs i 0) (true_at xs i h lt) in
    omega (arith, digits_value_more 10 xs i lt, n.2)

-- the powers of ten up to 18 digits
pub power_of_ten : (i : ℕ) → i ≤ 17 → (10 ^ i ≤ 100_000_000_000_000_000) × (10 ^ (i + 1) ≡ 10 ^ i * 10)
power_of_ten i le = (pow-le-pow_right {n = 10} (omega arith) le, pow_more 10 i)
