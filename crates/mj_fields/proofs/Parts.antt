-- Parts of a string of bytes.
use Rattle.std.proofs.Common.{◌≡◌, ℕ, zero, suc, ◌+◌, ◌-◌, ◌<◌, List, [], ◌∷◌, ◌++◌, length, take, drop, get_or, sym, ◌∙◌, ap, subst, arith, length-drop}
use Rattle.std.specs.Int.{w32, w64, to_le_bytes, from_le_bytes}
use Rattle.std.proofs.lemmas.List.{take_all, get_or-drop, drop-drop}
use Rattle.std.proofs.lemmas.Nat.{le_bytes_4, le_bytes_8}
use Rattle.std.proofs.Common.{take-add}
use Rattle.mj_fields.specs.Fields.{with_length}

-- each is a byte
abbrev pub AreBytes : List ℕ → Type 0
AreBytes bytes = (i : ℕ) → get_or bytes i 0 < 256

bytes_take : (bytes : List ℕ) (n : ℕ) → AreBytes bytes → AreBytes (take n bytes)
bytes_take [] zero h i = h i
bytes_take [] (suc n) h i = h i
bytes_take (b ∷ bytes) zero h i = omega arith
bytes_take (b ∷ bytes) (suc n) h zero = h 0
bytes_take (b ∷ bytes) (suc n) h (suc i) = bytes_take bytes n (λ k. h (suc k)) i

bytes_drop : (bytes : List ℕ) (n : ℕ) → AreBytes bytes → AreBytes (drop n bytes)
bytes_drop bytes n h i = subst (λ (b : ℕ). b < 256) (sym (get_or-drop n bytes i 0)) (h (n + i))

module _ (bytes field : List ℕ) (at count n : ℕ) (h : AreBytes bytes) (is : field ≡ take count (take (length bytes - at) (drop at bytes))) (size : length field ≡ count) where
  whole : take count (drop at bytes) ≡ field
  whole = ap (λ (l : List ℕ). take count l) (sym (take_all (length bytes - at) (drop at bytes) (omega (arith, length-drop at bytes)))) ∙ sym is

  small : AreBytes field
  small = subst AreBytes whole (bytes_take (drop at bytes) count (bytes_drop bytes at h))

  -- a number's bytes are those that stand there
  pub number_4 : count ≡ 4 → n ≡ from_le_bytes w32 field → take count (drop at bytes) ≡ to_le_bytes w32 n
  number_4 four value = whole ∙ sym (le_bytes_4 field n (size ∙ four) small value)

  pub number_8 : count ≡ 8 → n ≡ from_le_bytes w64 field → take count (drop at bytes) ≡ to_le_bytes w64 n
  number_8 eight value = whole ∙ sym (le_bytes_8 field n (size ∙ eight) small value)

-- so are a string's
pub string_is : (bytes text : List ℕ) (at from count : ℕ) → from ≡ at + 4 → take 4 (drop at bytes) ≡ to_le_bytes w32 count → text ≡ take count (drop from bytes) → length text ≡ count
    → take (from + count - at) (drop at bytes) ≡ with_length text
string_is bytes text at from count behind head is size =
    let total : from + count - at ≡ 4 + count = omega arith in
    let rest : drop 4 (drop at bytes) ≡ drop from bytes = drop-drop 4 at bytes ∙ ap (λ (k : ℕ). drop k bytes) (sym behind) in
    ap (λ (k : ℕ). take k (drop at bytes)) total
    ∙ take-add 4 count (drop at bytes)
    ∙ ap (λ (l : List ℕ). l ++ take count (drop 4 (drop at bytes))) head
    ∙ ap (λ (l : List ℕ). to_le_bytes w32 count ++ take count l) rest
    ∙ ap (λ (l : List ℕ). to_le_bytes w32 count ++ l) (sym is)
    ∙ ap (λ (k : ℕ). to_le_bytes w32 k ++ text) (sym size)
