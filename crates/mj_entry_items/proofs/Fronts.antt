-- What stands at the first place of some bytes stands at their front.
use Rattle.std.proofs.Common.{◌≡◌, ℕ, ◌+◌, ◌-◌, ◌≤◌, nat_le, Bool, true, false, if◌then◌else◌, List, length, take, drop, Option, Some, None, refl, sym, ap, ◌∙◌, zero-add, arith, length-drop}
use Rattle.std.specs.Int.{Width, w32, byte_len, from_le_bytes}
use Rattle.std.specs.Option.{option_map, option_and_then}
use Rattle.std.proofs.lemmas.Bool.Decides.{nat_tests}
use Rattle.std.proofs.lemmas.List.{drop-drop, take_all}
use Rattle.mj_fields.specs.Fields.{bytes_at, number_at, string_at}
use Rattle.mj_entry_rows.specs.Readings.{bytes_in, number_in, string_in, then_in}

-- what stands at a place, and the bytes behind it
abbrev pub front : {X : Type 0} → List ℕ → Option (X × ℕ) → Option (X × List ℕ)
front bytes found = option_map (λ item. (item.0, drop item.1 bytes)) found

piece_front : (fits : Bool) (bytes piece rest : List ℕ) (behind : ℕ) → drop behind bytes ≡ rest
    → front bytes (if fits then Some (piece, behind) else None) ≡ (if fits then Some (piece, rest) else None)
piece_front true bytes piece rest behind is = ap (λ (left : List ℕ). Some (piece, left)) is
piece_front false bytes piece rest behind is = refl

bytes_front : (count at : ℕ) (bytes : List ℕ) → at ≤ length bytes → front bytes (bytes_at count bytes at) ≡ bytes_in count (drop at bytes)
bytes_front count at bytes within =
    let size : length (drop at bytes) ≡ length bytes - at = length-drop at bytes in
    let same : nat_le (at + count) (length bytes) ≡ nat_le count (length (drop at bytes)) = grind (arith, nat_tests, size) in
    piece_front (nat_le (at + count) (length bytes)) bytes (take count (drop at bytes)) (drop count (drop at bytes)) (at + count) (sym (drop-drop count at bytes))
    ∙ ap (λ (fits : Bool). if fits then Some (take count (drop at bytes), drop count (drop at bytes)) else None) same

number_cases : (w : Width) (fits : Bool) (bytes digits rest : List ℕ) (behind : ℕ) → drop behind bytes ≡ rest
    → then_in (if fits then Some (digits, rest) else None) (λ (found left : List ℕ). Some (from_le_bytes w found, left))
    ≡ front bytes (option_and_then (λ (found : List ℕ × ℕ). Some (from_le_bytes w found.0, found.1)) (if fits then Some (digits, behind) else None))
number_cases w true bytes digits rest behind is = ap (λ (left : List ℕ). Some (from_le_bytes w digits, left)) (sym is)
number_cases w false bytes digits rest behind is = refl

-- the number at the front
pub number_front : (w : Width) (bytes : List ℕ) → number_in w bytes ≡ front bytes (number_at w bytes 0)
number_front w bytes =
    rw zero-add (number_cases w (nat_le (byte_len w) (length bytes)) bytes (take (byte_len w) bytes) (drop (byte_len w) bytes) (byte_len w) refl)

string_cases : (fits : Bool) (bytes : List ℕ) → (fits ≡ true → 4 ≤ length bytes)
    → then_in (then_in (if fits then Some (take 4 bytes, drop 4 bytes) else None) (λ (digits left : List ℕ). Some (from_le_bytes w32 digits, left))) bytes_in
    ≡ front bytes (option_and_then (λ (found : ℕ × ℕ). bytes_at found.0 bytes found.1)
    (option_and_then (λ (found : List ℕ × ℕ). Some (from_le_bytes w32 found.0, found.1)) (if fits then Some (take 4 bytes, 4) else None)))
string_cases true bytes within = sym (bytes_front (from_le_bytes w32 (take 4 bytes)) 4 bytes (within refl))
string_cases false bytes within = refl

-- the string at the front
pub string_front : (bytes : List ℕ) → string_in bytes ≡ front bytes (string_at bytes 0)
string_front bytes = string_cases (nat_le 4 (length bytes)) bytes (λ fits. grind (arith, nat_tests))

-- a text that stands at the first place, and the bytes behind it
pub text_front : (bytes text : List ℕ) (behind : ℕ) → string_at bytes 0 ≡ Some (text, behind) → string_in bytes ≡ Some (text, take (length bytes - behind) (drop behind bytes))
text_front bytes text behind is =
    string_front bytes ∙ ap (front bytes) is ∙ ap (λ (rest : List ℕ). Some (text, rest)) (sym (take_all (length bytes - behind) (drop behind bytes) (omega (arith, length-drop behind bytes))))
