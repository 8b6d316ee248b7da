-- One bit of a mask as a Bool, through each operation, and masks of the bytes of a vector.
use Rattle.std.proofs.Common.{◌≡◌, ℕ, zero, suc, ◌+◌, ◌-◌, ◌*◌, ◌/◌, ◌%◌, ◌^◌, ◌<◌, ◌≤◌, min, max, Bool, true, false, not, ◌&&◌, ◌||◌, ◌==◌, List, [], ◌∷◌, map, length, get_or, replicate, cond, Fits, w8, w64, inl, inr, refl, sym, ap, ap₂, ◌∙◌, subst, arith, add-one}
use Rattle.std.specs.Int.{bit_at}
use Rattle.std.proofs.lemmas.Bool.{agree_below, agree_below_at, or_parts, or_left, or_right, and_from, and_left, not_from_false, false≢true, cases_lt}
use Rattle.std.proofs.lemmas.List.{get_or-map}
use Rattle.std.proofs.lemmas.Nat.Bits.{bit_at_and, bit_at_or, bit_at_not, bit_at_ones, bit_at-lt, bit_at_above}
use Rattle.std.proofs.lemmas.Simd.{bit_mask_l, map-map, Each1-get_or}
use lib.Bits.{bit_and, bit_or}
use lib.Lanes.{zip2, mask_l, top, Each1}
use lib.Pow.{field, mod-mod-pow, shr-shr, shl-shr}
use mir.Val.{bool_byte}
use Rattle.mj_head_lines.specs.Plain.{has_bit, has_bit_before, begins_line, any_to, Marks}

-- ---- one bit

bit_cases : (P : ℕ → Type 0) → P 0 → P 1 → (x : ℕ) → x < 2 → P x
bit_cases P p q zero h = p
bit_cases P p q (suc zero) h = q
bit_cases P p q (suc (suc x)) h = absurd (omega arith)

two_bits : (P : ℕ → ℕ → Type 0) → P 0 0 → P 0 1 → P 1 0 → P 1 1 → (a b k : ℕ) → P (bit_at a k) (bit_at b k)
two_bits P p q r s a b k =
    bit_cases (λ x. P x (bit_at b k)) (bit_cases (P 0) p q (bit_at b k) (bit_at-lt b k)) (bit_cases (P 1) r s (bit_at b k) (bit_at-lt b k)) (bit_at a k) (bit_at-lt a k)

pub bit-and : (a b k : ℕ) → has_bit (bit_and a b) k ≡ (has_bit a k && has_bit b k)
unfolding has_bit
bit-and a b k = ap (λ n. n == 1) (bit_at_and a b k) ∙ two_bits (λ x y. (min x y == 1) ≡ ((x == 1) && (y == 1))) refl refl refl refl a b k

pub bit-or : (a b k : ℕ) → has_bit (bit_or a b) k ≡ (has_bit a k || has_bit b k)
unfolding has_bit
bit-or a b k = ap (λ n. n == 1) (bit_at_or a b k) ∙ two_bits (λ x y. (max x y == 1) ≡ ((x == 1) || (y == 1))) refl refl refl refl a b k

pub bit-not : (a k : ℕ) → a < 2 ^ 64 → k < 64 → has_bit (2 ^ 64 - 1 - a) k ≡ not (has_bit a k)
unfolding has_bit
bit-not a k small h = ap (λ n. n == 1) (bit_at_not w64 a k small h) ∙ bit_cases (λ x. ((1 - x) == 1) ≡ not (x == 1)) refl refl (bit_at a k) (bit_at-lt a k)

pub bit-mod : (n k : ℕ) → k < 64 → has_bit (n % 2 ^ 64) k ≡ has_bit n k
unfolding has_bit
bit-mod n k h =
    let m : ℕ = 63 - k in
    let e : m + 1 + k ≡ 64 = omega arith in
    ap (λ x. x == 1) (subst (λ w. bit_at (n % 2 ^ w) k ≡ bit_at n k) e (ap (λ x. x % 2) (field n (m + 1) k) ∙ mod-mod-pow (n / 2 ^ k) m 1))

-- a shift by one
pub bit-up : (n k : ℕ) → k < 64 → has_bit (n * 2 ^ 1 % 2 ^ 64) k ≡ has_bit_before n k
unfolding has_bit
bit-up n zero h =
    let even : bit_at (n * 2 ^ 1) 0 ≡ 0 = omega arith in
    bit-mod (n * 2 ^ 1) 0 h ∙ ap (λ x. x == 1) even
bit-up n (suc k) h =
    let e : 1 + k ≡ suc k = omega arith in
    bit-mod (n * 2 ^ 1) (suc k) h
    ∙ ap (λ j. n * 2 ^ 1 / 2 ^ j % 2 == 1) (sym e)
    ∙ ap (λ x. x % 2 == 1) (sym (shr-shr (n * 2 ^ 1) 1 k) ∙ ap (λ x. x / 2 ^ k) (shl-shr n 1))

-- and the lowest bit set
pub bit-begins : (n k : ℕ) → k < 64 → has_bit (bit_or (n * 2 ^ 1 % 2 ^ 64) 1) k ≡ begins_line n k
unfolding has_bit
bit-begins n zero h = bit-or _ 1 0 ∙ or_right _ true refl
bit-begins n (suc k) h =
    let none : bit_at 1 (suc k) ≡ 0 = bit_at_above 1 1 (suc k) (omega arith) (omega arith) in
    bit-or _ 1 (suc k) ∙ ap₂ (λ a b. a || b) (bit-up n (suc k) h) (ap (λ x. x == 1) none) ∙ or_false (has_bit n k)
  where
    or_false : (x : Bool) → (x || false) ≡ x
    or_false true = refl
    or_false false = refl

-- ---- a sum

abbrev xor : Bool → Bool → Bool
xor true b = not b
xor false b = b

abbrev most : Bool → Bool → Bool → Bool
most a b c = (a && b) || (xor a b && c)

-- the carry into bit k of a sum
unfoldable pub carry : ℕ → ℕ → ℕ → Bool
carry a b zero = false
carry a b (suc k) = most (has_bit a k) (has_bit b k) (carry a b k)

shr-suc : (n k : ℕ) → n / 2 ^ suc k ≡ n / 2 ^ k / 2
shr-suc n k = ap (λ e. n / 2 ^ e) (sym (add-one k)) ∙ sym (shr-shr n k 1)

halves : (x y c : ℕ) → (x + y + c) / 2 ≡ x / 2 + y / 2 + (x % 2 + y % 2 + c) / 2
halves x y c = omega arith

lows : (x y c : ℕ) → (x + y + c) % 2 ≡ (x % 2 + y % 2 + c) % 2
lows x y c = omega arith

carry_out : (c : Bool) (a b k : ℕ) → (a / 2 ^ k % 2 + b / 2 ^ k % 2 + bool_byte c) / 2 ≡ bool_byte (most (has_bit a k) (has_bit b k) c)
unfolding has_bit
carry_out true = two_bits (λ x y. (x + y + 1) / 2 ≡ bool_byte (most (x == 1) (y == 1) true)) refl refl refl refl
carry_out false = two_bits (λ x y. (x + y + 0) / 2 ≡ bool_byte (most (x == 1) (y == 1) false)) refl refl refl refl

sum_bit : (c : Bool) (a b k : ℕ) → ((a / 2 ^ k % 2 + b / 2 ^ k % 2 + bool_byte c) % 2 == 1) ≡ xor (xor (has_bit a k) (has_bit b k)) c
unfolding has_bit
sum_bit true = two_bits (λ x y. ((x + y + 1) % 2 == 1) ≡ xor (xor (x == 1) (y == 1)) true) refl refl refl refl
sum_bit false = two_bits (λ x y. ((x + y + 0) % 2 == 1) ≡ xor (xor (x == 1) (y == 1)) false) refl refl refl refl

add-shr : (a b k : ℕ) → (a + b) / 2 ^ k ≡ a / 2 ^ k + b / 2 ^ k + bool_byte (carry a b k)
unfolding carry
add-shr a b zero = omega arith
add-shr a b (suc k) =
    shr-suc (a + b) k ∙ ap (λ n. n / 2) (add-shr a b k) ∙ halves (a / 2 ^ k) (b / 2 ^ k) (bool_byte (carry a b k))
    ∙ (λ t. sym (shr-suc a k) t + sym (shr-suc b k) t + carry_out (carry a b k) a b k t)

pub bit-add : (a b k : ℕ) → has_bit (a + b) k ≡ xor (xor (has_bit a k) (has_bit b k)) (carry a b k)
unfolding has_bit
bit-add a b k = ap (λ n. n == 1) (ap (λ n. n % 2) (add-shr a b k) ∙ lows (a / 2 ^ k) (b / 2 ^ k) (bool_byte (carry a b k))) ∙ sum_bit (carry a b k) a b k

-- ---- a mask computed lane by lane

zip2-map : (h : ℕ → ℕ → ℕ) (f g : ℕ → ℕ) (xs : List ℕ) → zip2 h (map f xs) (map g xs) ≡ map (λ x. h (f x) (g x)) xs
zip2-map h f g [] = refl
zip2-map h f g (x ∷ xs) = ap (λ (r : List ℕ). h (f x) (g x) ∷ r) (zip2-map h f g xs)

-- an operation on two vectors that were computed lane by lane from one
pub joined : (h : ℕ → ℕ → ℕ) (f g : ℕ → ℕ) (v : List ℕ) {a b : List ℕ} → a ≡ map f v → b ≡ map g v → zip2 h a b ≡ map (λ x. h (f x) (g x)) v
joined h f g v p q = ap₂ (zip2 h) p q ∙ zip2-map h f g v

splat_left : (h : ℕ → ℕ → ℕ) (y : ℕ) (xs : List ℕ) → zip2 h (replicate (length xs) y) xs ≡ map (h y) xs
splat_left h y [] = refl
splat_left h y (x ∷ xs) = ap (λ (r : List ℕ). h y x ∷ r) (splat_left h y xs)

-- a comparison with its sides changed
pub from_splat : (h : ℕ → ℕ → ℕ) (y n : ℕ) (v : List ℕ) → length v ≡ n → zip2 h (replicate n y) v ≡ map (h y) v
from_splat h y n v long = ap (λ k. zip2 h (replicate k y) v) (sym long) ∙ splat_left h y v

-- the lanes' top bits, where these tell of each byte whether it passes the test
pub marked : (f : ℕ → ℕ) (test : ℕ → Bool) (v z : List ℕ) → (length v ≡ 64) × Each1 (Fits w8) v → z ≡ map f v → ((x : ℕ) → x < 256 → top 7 (f x) ≡ test x) → Marks test v (mask_l (map (top 7) z) % 2 ^ 64)
unfolding has_bit
marked f test v z fits lanes all = record {
  each = λ k h.
      let within : k < length v = omega (arith, fits.0) in
      bit-mod _ k h ∙ ap (λ x. x == 1) (bit_mask_l (map (top 7) z) k) ∙ back (get_or (map (top 7) z) k false)
      ∙ ap (λ (l : List Bool). get_or l k false) (ap (map (top 7)) lanes ∙ map-map (top 7) f v)
      ∙ get_or-map (λ x. top 7 (f x)) v k 0 false within
      ∙ all (get_or v k 0) (Each1-get_or (Fits w8) v k 0 within fits.1).fits;
}
  where
    back : (b : Bool) → (cond b 1 0 == 1) ≡ b
    back true = refl
    back false = refl

-- the same, where a computation over the 256 bytes shows it
pub marked_by_byte : (f : ℕ → ℕ) (test : ℕ → Bool) (v z : List ℕ) → (length v ≡ 64) × Each1 (Fits w8) v → z ≡ map f v → agree_below (λ x. top 7 (f x)) test 256 ≡ true → Marks test v (mask_l (map (top 7) z) % 2 ^ 64)
marked_by_byte f test v z fits lanes all = marked f test v z fits lanes (λ x h. agree_below_at (λ y. top 7 (f y)) test 256 x all h)

pub top_of_cond : (b : Bool) → top 7 (cond b 255 0) ≡ b
top_of_cond true = refl
top_of_cond false = refl

-- ---- the bits before the lowest one

-- no bit up to k is set, so none up to a place before it
pub any_less : (mask j k : ℕ) → j ≤ k → any_to mask k ≡ false → any_to mask j ≡ false
any_less mask j zero h none =
    let same : zero ≡ j = omega arith in
    subst (λ i. any_to mask i ≡ false) same none
any_less mask j (suc k) h none =
    elim (cases_lt j (suc k)) [
      | inl below ↦ any_less mask j k (omega arith) (or_parts (has_bit mask (suc k)) (any_to mask k) none).1
      | inr last ↦
          let same : suc k ≡ j = omega arith in
          subst (λ i. any_to mask i ≡ false) same none
    ]

pub any_here : (mask k : ℕ) → any_to mask k ≡ false → has_bit mask k ≡ false
any_here mask zero none = none
any_here mask (suc k) none = (or_parts (has_bit mask (suc k)) (any_to mask k) none).0

one_bit : (k : ℕ) → k < 64 → has_bit (2 ^ 64 - 1) k ≡ true
unfolding has_bit
one_bit k h = ap (λ x. x == 1) (bit_at_ones 64 k h)

most_one : (a b c : Bool) → b ≡ true → most a b c ≡ (a || c)
most_one true true c e = refl
most_one false true c e = refl
most_one a false c e = absurd (false≢true e)

-- with 1 taken from a mask, the carry says whether a bit below is set
any_carry : (mask k : ℕ) → k < 64 → any_to mask k ≡ (has_bit mask k || carry mask (2 ^ 64 - 1) k)
unfolding carry
any_carry mask zero h = or_false (has_bit mask 0)
  where
    or_false : (x : Bool) → x ≡ (x || false)
    or_false true = refl
    or_false false = refl
any_carry mask (suc k) h =
    ap (λ x. has_bit mask (suc k) || x) (any_carry mask k (omega arith) ∙ sym (most_one (has_bit mask k) (has_bit (2 ^ 64 - 1) k) (carry mask (2 ^ 64 - 1) k) (one_bit k (omega arith))))

pub bit-before : (mask stop k : ℕ) → stop < 2 ^ 64 → k < 64 → has_bit (bit_and (bit_and mask (2 ^ 64 - 1 - stop)) ((stop + (2 ^ 64 - 1)) % 2 ^ 64)) k ≡ (has_bit mask k && not (any_to stop k))
bit-before mask stop k small h =
    bit-and _ _ k ∙ ap₂ (λ a b. a && b) (bit-and mask _ k ∙ ap (λ x. has_bit mask k && x) (bit-not stop k small h)) (bit-mod _ k h ∙ bit-add stop (2 ^ 64 - 1) k)
    ∙ ap (λ x. (has_bit mask k && not (has_bit stop k)) && xor (xor (has_bit stop k) x) (carry stop (2 ^ 64 - 1) k)) (one_bit k h)
    ∙ both (has_bit mask k) (has_bit stop k) (carry stop (2 ^ 64 - 1) k) ∙ ap (λ x. has_bit mask k && not x) (sym (any_carry stop k h))
  where
    both : (m s c : Bool) → ((m && not s) && xor (xor s true) c) ≡ (m && not (s || c))
    both false s c = refl
    both true true c = refl
    both true false true = refl
    both true false false = refl

-- ---- behind runs

most_both : (a b c : Bool) → a ≡ true → (b || c) ≡ true → most a b c ≡ true
most_both true true c p q = refl
most_both true false c p q = q
most_both false b c p q = absurd (false≢true p)

-- from a bit of both numbers on a sum carries to the end of the run
carried : (runs from start end : ℕ) → start < end → has_bit from start ≡ true → ((k : ℕ) → start ≤ k → k < end → has_bit runs k ≡ true) → carry runs (bit_and runs from) end ≡ true
unfolding carry
carried runs from start zero l set run = absurd (omega arith)
carried runs from start (suc end) l set run =
    let here : has_bit runs end ≡ true = run end (omega arith) (omega arith) in
    elim (cases_lt start end) [
      | inl below ↦ most_both _ _ _ here (or_right (has_bit (bit_and runs from) end) _ (carried runs from start end below set (λ k low high. run k low (omega arith))))
      | inr last ↦
          let same : start ≡ end = omega arith in
          most_both _ _ _ here (or_left _ (carry runs (bit_and runs from) end) (bit-and runs from end ∙ and_from _ _ here (subst (λ k. has_bit from k ≡ true) same set)))
    ]

pub bit-behind : (runs from start end : ℕ) → runs < 2 ^ 64 → start < end → end < 64 → has_bit from start ≡ true → ((k : ℕ) → start ≤ k → k < end → has_bit runs k ≡ true) → has_bit runs end ≡ false
    → has_bit (bit_and ((runs + bit_and runs from) % 2 ^ 64) (2 ^ 64 - 1 - runs)) end ≡ true
bit-behind runs from start end small l h set run over =
    bit-and _ _ end ∙ and_from _ _
    (bit-mod _ end h ∙ bit-add runs (bit_and runs from) end ∙ ap₂ (λ a b. xor a b) (ap₂ (λ a b. xor a b) over (bit-and runs from end ∙ and_left _ _ over)) (carried runs from start end l set run))
    (bit-not runs end small h ∙ not_from_false _ over)
