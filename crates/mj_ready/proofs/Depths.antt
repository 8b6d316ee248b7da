-- How many levels of a heap a row passes: each level is twice as wide as the one above it.
use Rattle.std.proofs.Common.{ℕ, ◌+◌, ◌-◌, ◌*◌, ◌/◌, ◌^◌, ◌<◌, ◌≤◌, arith, inl, inr, mul-le-mul_left, mul_assoc}
use Rattle.std.proofs.lemmas.Bool.{cases_lt}
use Rattle.std.proofs.lemmas.Grind.{pow_more}
use Rattle.std.proofs.Math.Pow.{pow_mono}

-- what has at least 2 ^ t places and fewer than 2 ^ (k + 1) has at most k levels
pub levels : (t k n : ℕ) → 2 ^ t ≤ n → n < 2 ^ (k + 1) → t ≤ k
levels t k n low high =
    elim (cases_lt k t) [ inl deeper ↦ absurd (omega (arith, pow_mono {i = k + 1} {j = t} (omega arith))) | inr within ↦ within ]

-- one level up, towards the front
pub up_one : (t at place : ℕ) → 0 < at → 2 ^ t * (at + 1) ≤ place → 2 ^ (t + 1) * ((at - 1) / 2 + 1) ≤ place
up_one t at place some low =
    let half = (at - 1) / 2 + 1 in
    let halved : 2 * half ≤ at + 1 = omega arith in
    rw (pow_more 2 t, mul_assoc (2 ^ t) 2 half) (omega (arith, mul-le-mul_left (2 ^ t) halved))

-- one level down
pub down_one : (t at below : ℕ) → 2 ^ t ≤ at + 1 → 2 * at + 1 ≤ below → 2 ^ (t + 1) ≤ below + 1
down_one t at below low wide = rw (pow_more 2 t) (omega arith)

-- t levels below a place from which there is a row at most
pub passed : (t k above n : ℕ) → 2 ^ t * (above + 1) ≤ n → n < 2 ^ (k + 1) → t ≤ k
passed t k above n low high =
    levels t k n (omega (arith, mul-le-mul_left {m = 1} {n = above + 1} (2 ^ t) (omega arith))) high
