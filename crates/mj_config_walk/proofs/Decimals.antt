-- Decimal digits, one after another, as far as 64 bits hold them.
use Rattle.std.proofs.Common.{◌≡◌, ℕ, ◌+◌, ◌*◌, ◌^◌, ◌<◌, ◌≤◌, Option, Some, None, arith}
use Rattle.std.specs.Option.{IfSome}
use Rattle.std.proofs.Math.Nat.{pow-le-pow_right}
use Rattle.std.proofs.lemmas.Grind.{pow_more}

-- the powers of ten up to 18 digits
pub power_of_ten : (i : ℕ) → i ≤ 17 → (10 ^ i ≤ 100_000_000_000_000_000) × (10 ^ (i + 1) ≡ 10 ^ i * 10)
power_of_ten i le = (pow-le-pow_right {n = 10} (omega arith) le, pow_more 10 i)

-- a shorter text spells a smaller number
below_power : (n i most : ℕ) → n < 10 ^ i → i ≤ most → n < 10 ^ most
below_power n i most lt le = omega (arith, pow-le-pow_right {n = 10} (omega arith) le, lt)

pub below_longer : (r : Option ℕ) (i most : ℕ) → i ≤ most → IfSome r (λ n. n < 10 ^ i) → IfSome r (λ n. n < 10 ^ most)
below_longer None i most le small = tt
below_longer (Some n) i most le small = below_power n i most small le
