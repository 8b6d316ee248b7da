-- What the first bytes behind a place say of the gate there.
use Rattle.std.proofs.Common.{◌≡◌, ⊎_elim, ◌⊎◌, ℕ, zero, suc, ◌+◌, ◌*◌, ◌-◌, ◌<◌, ◌≤◌, List, [], ◌∷◌, length, take, drop, get_or, refl, sym, ◌∙◌, ap, subst, arith, length-drop}
use Rattle.std.specs.Prelude.{Option, Some, None, false}
use Rattle.std.proofs.lemmas.Bool.Decides.{nat_tests}
use Rattle.std.proofs.lemmas.List.{get_or-take, length-take-le, drop_more}
use Rattle.mj_log.specs.FrameLaws.{four, number_four}
use Rattle.mj_disk.specs.Media.{Media}
use Rattle.mj_disk.specs.Moments.{Now}
use Rattle.mj_log.specs.Header.{HasSize, IsHeader, IsFrame, IsBroken, StopsAt, is_whole}
use Rattle.mj_log.specs.declared.fault.LogFault.TheVariants.{Damaged}
use Rattle.mj_log.specs.Journal.{number_of}

below_or_not : (a b : ℕ) → (a < b) ⊎ (b ≤ a)
below_or_not a b = grind arith

module _ (bytes head : List ℕ) (at count : ℕ) (within : at < length bytes) (is : take count head ≡ take 5 (drop at bytes)) (few : count ≤ length head) (five : count ≤ 5) where
  enough : length (take count head) ≡ count
  enough = length-take-le count head few

  piece : length (take 5 (drop at bytes)) ≡ count
  piece = sym (ap (λ (l : List ℕ). length l) is) ∙ enough

  split : drop at bytes ≡ get_or bytes at 0 ∷ drop (at + 1) bytes
  split = drop_more bytes at 0 within

  pub some_bytes : 1 ≤ count
  some_bytes = omega (arith, piece, ap (λ (l : List ℕ). length (take 5 l)) split)

  pub gate_is : get_or bytes at 0 ≡ get_or head 0 0
  gate_is = sym (ap (λ (l : List ℕ). get_or (take 5 l) 0 0) split) ∙ sym (ap (λ (l : List ℕ). get_or l 0 0) is) ∙ get_or-take count head 0 0 (omega (arith, some_bytes))

  rest_is : count ≡ 5 → take 4 (drop (at + 1) bytes) ≡ drop 1 (take 5 head)
  rest_is all = sym (ap (λ (l : List ℕ). drop 1 (take 5 l)) split) ∙ sym (ap (λ (l : List ℕ). drop 1 l) is) ∙ ap (λ (n : ℕ). drop 1 (take n head)) all

  pub fewer : count < 5 → length (drop (at + 1) bytes) < 4
  fewer low = ⊎_elim (λ (less : length (drop (at + 1) bytes) < 4). less)
      (λ (more : 4 ≤ length (drop (at + 1) bytes)). absurd (omega (arith, piece, length-take-le 5 (drop at bytes) (omega (arith, ap (λ (l : List ℕ). length l) split)))))
      (below_or_not (length (drop (at + 1) bytes)) 4)

number_is : (a b c d : ℕ) → a < 256 → b < 256 → c < 256 → d < 256 → a ∷ b ∷ c ∷ d ∷ [] ≡ four (a + 256 * (b + 256 * (c + 256 * d)))
number_is a b c d la lb lc ld = grind arith

list_five : (head : List ℕ) → length head ≡ 5 → head ≡ get_or head 0 0 ∷ get_or head 1 0 ∷ get_or head 2 0 ∷ get_or head 3 0 ∷ get_or head 4 0 ∷ []
list_five [] five = absurd (omega arith)
list_five (g ∷ []) five = absurd (omega arith)
list_five (g ∷ a ∷ []) five = absurd (omega arith)
list_five (g ∷ a ∷ b ∷ []) five = absurd (omega arith)
list_five (g ∷ a ∷ b ∷ c ∷ []) five = absurd (omega arith)
list_five (g ∷ a ∷ b ∷ c ∷ d ∷ []) five = refl
list_five (g ∷ a ∷ b ∷ c ∷ d ∷ e ∷ rest) five = absurd (omega arith)

pub header_whole : (bytes head : List ℕ) (at count a b c d : ℕ) → length head ≡ 5 → at < length bytes → take count head ≡ take 5 (drop at bytes) → count ≤ 5 → 5 ≤ count
    → a ≡ get_or head 1 0 → b ≡ get_or head 2 0 → c ≡ get_or head 3 0 → d ≡ get_or head 4 0 → a < 256 → b < 256 → c < 256 → d < 256
    → IsHeader bytes at (get_or head 0 0) (Some (a + 256 * (b + 256 * (c + 256 * d))))
header_whole bytes head at count a b c d five within is most least ea eb ec ed la lb lc ld = (
  gate_is bytes head at count within is (omega arith) most,
  (
    rest_is bytes head at count within is (omega arith) most (omega arith)
        ∙ ap (λ (l : List ℕ). drop 1 (take 5 l)) (list_five head five)
        ∙ (λ i. sym ea i ∷ sym eb i ∷ sym ec i ∷ sym ed i ∷ [])
        ∙ number_is a b c d la lb lc ld,
    omega arith,
  ),
)

pub header_short : (bytes head : List ℕ) (at count : ℕ) → length head ≡ 5 → at < length bytes → take count head ≡ take 5 (drop at bytes) → count < 5 → IsHeader bytes at (get_or head 0 0) None
header_short bytes head at count five within is low = (
  gate_is bytes head at count within is (omega arith) (omega arith),
  fewer bytes head at count within is (omega arith) (omega arith) low,
)

-- no whole frame follows
too_short : (rest : List ℕ) → length rest < 4 → is_whole rest ≡ false
too_short rest low = grind (arith, nat_tests)

too_long : (rest : List ℕ) (n : ℕ) → number_of (take 4 rest) ≡ n → (n ≤ 134217728 → length rest ≤ 4 + n) → is_whole rest ≡ false
too_long rest n is over = grind (arith, nat_tests)

positive : (n : ℕ) → (n ≡ 0 → ⊥) → 0 < n
positive zero h = absurd (h refl)
positive (suc n) h = omega arith

pub broken_at : (bytes : List ℕ) (at gate : ℕ) (size : Option ℕ) → at < length bytes → IsHeader bytes at gate size → (gate ≡ 0 → ⊥) → ((n : ℕ) → size ≡ Some n → n ≤ 134217728 → length bytes ≤ at + 5 + n) → IsBroken bytes at
broken_at bytes at gate None within h is_open over = (
  subst (λ (n : ℕ). 0 < n) (sym h.0) (positive gate is_open),
  too_short (drop (at + 1) bytes) h.1,
)
broken_at bytes at gate (Some n) within h is_open over =
    let number : number_of (take 4 (drop (at + 1) bytes)) ≡ n = ap number_of h.1.0 ∙ number_four n h.1.1 in
    let rest = length-drop (at + 1) bytes in (
      subst (λ (k : ℕ). 0 < k) (sym h.0) (positive gate is_open),
      too_long (drop (at + 1) bytes) n number (λ low. let most = over n refl low in omega arith),
    )

pub frame_at : (bytes : List ℕ) (at next gate : ℕ) (size : Option ℕ) → IsHeader bytes at gate size → (gate ≡ 0 → ⊥) → size ≡ Some (next - (at + 5)) → next - (at + 5) ≤ 134217728 → IsFrame bytes at next
frame_at bytes at next gate size h is_open is short = record {
  is_open = subst (λ (n : ℕ). 0 < n) (sym h.0) (positive gate is_open);
  size = (subst (λ (o : Option ℕ). HasSize o (drop (at + 1) bytes)) is h.1).0;
  short = short;
}

-- a fault at a gate with no whole frame behind it
pub stops_at : (h : List Media) (at file gate n number : ℕ) (size : Option ℕ) → n ≡ number → at < file → Now h (λ m. length m.bytes ≡ file) → Now h (λ m. IsHeader m.bytes at gate size) → (gate ≡ 0 → ⊥)
    → ((k : ℕ) → size ≡ Some k → k ≤ 134217728 → file ≤ at + 5 + k) → Now h (λ m. StopsAt (Damaged n) number m.bytes at)
stops_at [] at file gate n number size is within long head is_open over = tt
stops_at (m ∷ past) at file gate n number size is within long head is_open over =
    (is, broken_at m.bytes at gate size (omega arith) head is_open (λ k some low. let most = over k some low in omega arith))
