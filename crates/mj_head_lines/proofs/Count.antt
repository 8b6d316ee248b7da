-- The plain lines of a block, counted by the bits of a mask.
use Rattle.std.proofs.Common.{◌≡◌, ◌≢◌, ◌⊎◌, ℕ, zero, suc, ◌+◌, ◌-◌, ◌/◌, ◌%◌, ◌^◌, ◌<◌, ◌≤◌, true, false, List, [], ◌∷◌, ◌++◌, get_or, take, inl, inr, refl, sym, ap, ◌∙◌, subst, arith, pow_pos, mod-lt, div-lt_iff_lt-mul, le-div_iff_mul-le}
use Rattle.std.specs.Int.{bit_at}
use Rattle.std.specs.Int.Count.{ones, ones_in, count_leading_zeros, leading_of_zero}
use Rattle.std.proofs.Math.Nat.{mod-eq_of_lt, two-pow-succ}
use Rattle.std.proofs.lemmas.Bool.{and_from, both_ways, eqb-true, eqb-false, eq-eqb, cases_Bool, cases_eq, cases_lt}
use Rattle.std.proofs.lemmas.Grind.{flat_map-append}
use Rattle.std.proofs.lemmas.List.{append-nil, length_push}
use Rattle.std.proofs.lemmas.List.Folds.{list_all-append}
use Rattle.std.proofs.lemmas.Nat.{ones_cat, mod-pow-add, leading_top}
use Rattle.std.proofs.lemmas.Nat.Bits.{bit_at-lt}
use Rattle.mj_head_lines.specs.Plain.{has_bit, is_plain, with_ends, ArePlain, IsLineAt, IsPlainAt, ArePlainEnds}

no_lines : (text : List ℕ) (len count : ℕ) → len ≡ 0 → count ≡ 0 → ArePlain text len count
no_lines text len count none zero-is = record { lines = []; front = ap (λ n. take n text) none; plain = refl; number = sym zero-is }

-- one plain line more
one_more : (text : List ℕ) (start end count : ℕ) → ArePlain text start count → IsPlainAt text start end → ArePlain text (end + 1) (count + 1)
one_more text start end count h at =
    let ended : List ℕ = at.line ++ 13 ∷ 10 ∷ [] in
    record {
      lines = h.lines ++ at.line ∷ [];
      front =
          at.split ∙ ap (λ (t : List ℕ). t ++ ended) h.front ∙ ap (λ (t : List ℕ). with_ends h.lines ++ t) (sym (append-nil ended))
          ∙ sym (flat_map-append (λ (line : List ℕ). line ++ 13 ∷ 10 ∷ []) h.lines (at.line ∷ []));
      plain = list_all-append is_plain h.lines (at.line ∷ []) ∙ and_from _ _ h.plain (and_from _ _ at.plain refl);
      number = length_push h.lines at.line ∙ ap (λ n. n + 1) h.number;
    }

-- ---- the set bits below a place

ones_low : (m k : ℕ) → ones (m % 2 ^ suc k) ≡ ones (bit_at m k) + ones (m % 2 ^ k)
ones_low m k =
    let next : suc k ≡ 1 + k = omega arith in
    ap (λ e. ones (m % 2 ^ e)) next ∙ ap ones (mod-pow-add m 1 k) ∙ ones_cat k (m / 2 ^ k % 2 ^ 1) (m % 2 ^ k) (mod-lt m (pow_pos k))

pub ones-unset : (m k : ℕ) → has_bit m k ≡ false → ones (m % 2 ^ suc k) ≡ ones (m % 2 ^ k)
unfolding has_bit ones ones_in
ones-unset m k h =
    let bit : bit_at m k ≡ 0 = omega (arith, bit_at-lt m k, eqb-false (bit_at m k) 1 h) in
    let none : ones (bit_at m k) ≡ 0 = ap ones bit in
    omega (arith, ones_low m k)

pub ones-set : (m k : ℕ) → has_bit m k ≡ true → ones (m % 2 ^ suc k) ≡ ones (m % 2 ^ k) + 1
unfolding has_bit ones ones_in
ones-set m k h =
    let one : ones (bit_at m k) ≡ 1 = ap ones (eqb-true (bit_at m k) 1 h) in
    omega (arith, ones_low m k)

-- the highest bit is set
top_set : (m k : ℕ) → 2 ^ k ≤ m → m < 2 ^ suc k → has_bit m k ≡ true
unfolding has_bit
top_set m k low high =
    let below : m / 2 ^ k < 2 = (div-lt_iff_lt-mul (pow_pos k)).1 (omega (arith, two-pow-succ k)) in
    let some : 1 ≤ m / 2 ^ k = (le-div_iff_mul-le (pow_pos k)).1 (omega arith) in
    eq-eqb (bit_at m k) 1 (omega arith)

-- ---- the lines up to the highest bit

-- the lines before the one in which a place stands are plain, and the bits below the place are their number
record Upto (text : List ℕ) (ends place : ℕ) : Type 0 where
  start : ℕ
  low : start ≤ place
  begun : (start ≡ 0) ⊎ (get_or text (start - 1) 0 ≡ 10)
  whole : (k : ℕ) → start ≤ k → k < place → get_or text k 0 ≢ 10
  plain : ArePlain text start (ones (ends % 2 ^ place))

ended_at : (text : List ℕ) (ends place : ℕ) → ArePlainEnds text ends → place < 64 → has_bit ends place ≡ true → Upto text ends place → ArePlain text (place + 1) (ones (ends % 2 ^ suc place))
ended_at text ends place h small set p =
    let line : IsLineAt text p.start place = record { ordered = p.low; begun = p.begun; ended = h.only place small set; whole = p.whole } in
    subst (λ n. ArePlain text (place + 1) n) (sym (ones-set ends place set)) (one_more text p.start place _ p.plain (h.plain p.start place small set line))

upto : (text : List ℕ) (ends top : ℕ) → ArePlainEnds text ends → top < 64 → has_bit ends top ≡ true → (place : ℕ) → place ≤ top → Upto text ends place
unfolding ones ones_in
upto text ends top h small highest zero l =
    let none : ends % 2 ^ 0 ≡ 0 = omega arith in
    record { start = 0; low = omega arith; begun = inl refl; whole = λ k low high. absurd (omega arith); plain = no_lines text 0 _ refl (ap ones none) }
upto text ends top h small highest (suc place) l =
    let p = upto text ends top h small highest place (omega arith) in
    elim (cases_Bool (has_bit ends place)) [
      | inl set ↦
          let back : place + 1 - 1 ≡ place = omega arith in
          record {
            start = place + 1;
            low = omega arith;
            begun = inr (ap (λ i. get_or text i 0) back ∙ h.only place (omega arith) set);
            whole = λ k low high. absurd (omega arith);
            plain = ended_at text ends place h (omega arith) set p;
          }
      | inr unset ↦
          record {
            start = p.start;
            low = omega (arith, p.low);
            begun = p.begun;
            whole = λ k low high lf.
                elim (cases_lt k place) [
                  | inl before ↦ p.whole k low before lf
                  | inr here ↦
                      let same : place ≡ k = omega arith in
                      both_ways (has_bit ends place) unset (h.all place top (omega arith) small highest (ap (λ i. get_or text i 0) same ∙ lf))
                ];
            plain = subst (λ n. ArePlain text p.start n) (sym (ones-unset ends place unset)) p.plain;
          }
    ]

-- the highest bit ends the last line, and each bit a line
pub lines_of : (text : List ℕ) (ends : ℕ) → ends < 2 ^ 64 → ArePlainEnds text ends → ArePlain text (64 - count_leading_zeros 64 ends) (ones ends)
unfolding ones ones_in
lines_of text ends small h =
    elim (cases_eq ends 0) [
      | inl none ↦ no_lines text _ _ (ap (λ m. 64 - count_leading_zeros 64 m) none ∙ ap (λ n. 64 - n) (leading_of_zero 64)) (ap ones none)
      | inr some ↦
          let t = leading_top 64 ends (omega (arith, some)) small in
          let top : ℕ = t.0 in
          let len : top + 1 ≡ 64 - count_leading_zeros 64 ends = omega (arith, t.1) in
          let within : top < 64 = omega (arith, t.1) in
          let set : has_bit ends top ≡ true = top_set ends top t.2 t.3 in
          subst (λ n. ArePlain text n (ones ends)) len
          (subst (λ m. ArePlain text (top + 1) (ones m)) (mod-eq_of_lt t.3) (ended_at text ends top h within set (upto text ends top h within set top (omega arith))))
    ]
