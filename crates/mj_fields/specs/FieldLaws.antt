-- What was put at the end of a record stands at its place, whatever is put behind it.
use Rattle.std.specs.Prelude.{◌≡◌, ℕ, ◌+◌, ◌<◌, ◌≤◌, ◌^◌, nat_le, true, List, ◌++◌, length, take, drop, Option, Some, refl}
use Rattle.std.specs.Int.{Width, w8, w16, w32, w64, byte_len, to_le_bytes, from_le_bytes}
use Rattle.std.specs.Option.{option_and_then}
use Rattle.std.proofs.Common.{sym, ◌∙◌, ap, arith, append_assoc, length-append}
use Rattle.std.proofs.lemmas.Bool.Decides.{nat_tests}
use Rattle.std.proofs.lemmas.List.{take_at, drop_at}
use Rattle.std.proofs.lemmas.Nat.{from_le_bytes-to_le_bytes_2, from_le_bytes-to_le_bytes_4, from_le_bytes-to_le_bytes_8}
use Rattle.mj_fields.specs.Fields.{bytes_at, number_at, with_length, string_at}

fits : (count at : ℕ) (bytes part : List ℕ) → at + count ≤ length bytes → take count (drop at bytes) ≡ part → bytes_at count bytes at ≡ Some (part, at + count)
fits count at bytes part enough is =
    let test : nat_le (at + count) (length bytes) ≡ true = grind (arith, nat_tests) in
    rw (test, is) refl

pub bytes_back : (front piece rest : List ℕ) (count : ℕ) → length piece ≡ count → bytes_at count (front ++ piece ++ rest) (length front) ≡ Some (piece, length front + count)
bytes_back front piece rest count size =
    let whole : length (front ++ piece ++ rest) ≡ length front + count + length rest = omega (arith, length-append (front ++ piece) rest, length-append front piece) in
    let behind : drop (length front) (front ++ piece ++ rest) ≡ piece ++ rest = ap (λ (l : List ℕ). drop (length front) l) (append_assoc front piece rest) ∙ drop_at front (piece ++ rest) (length front) refl in
    fits count (length front) (front ++ piece ++ rest) piece (omega arith) (ap (λ (l : List ℕ). take count l) behind ∙ take_at piece rest count size)

number_back : (w : Width) (front piece rest : List ℕ) (n count : ℕ) → length piece ≡ count → byte_len w ≡ count → from_le_bytes w piece ≡ n
    → number_at w (front ++ piece ++ rest) (length front) ≡ Some (n, length front + count)
number_back w front piece rest n count size width value =
    ap (λ (k : ℕ). option_and_then (λ found. Some (from_le_bytes w found.0, found.1)) (bytes_at k (front ++ piece ++ rest) (length front))) width
    ∙ ap (λ (o : Option (List ℕ × ℕ)). option_and_then (λ found. Some (from_le_bytes w found.0, found.1)) o) (bytes_back front piece rest count size)
    ∙ ap (λ (k : ℕ). Some (k, length front + count)) value

pub u8_back : (front rest : List ℕ) (n : ℕ) → n < 2 ^ 8 → number_at w8 (front ++ to_le_bytes w8 n ++ rest) (length front) ≡ Some (n, length front + 1)
u8_back front rest n small = number_back w8 front (to_le_bytes w8 n) rest n 1 refl refl (omega arith)

pub u16_back : (front rest : List ℕ) (n : ℕ) → n < 2 ^ 16 → number_at w16 (front ++ to_le_bytes w16 n ++ rest) (length front) ≡ Some (n, length front + 2)
u16_back front rest n small = number_back w16 front (to_le_bytes w16 n) rest n 2 refl refl (from_le_bytes-to_le_bytes_2 n small)

pub u32_back : (front rest : List ℕ) (n : ℕ) → n < 2 ^ 32 → number_at w32 (front ++ to_le_bytes w32 n ++ rest) (length front) ≡ Some (n, length front + 4)
u32_back front rest n small = number_back w32 front (to_le_bytes w32 n) rest n 4 refl refl (from_le_bytes-to_le_bytes_4 n small)

pub u64_back : (front rest : List ℕ) (n : ℕ) → n < 2 ^ 64 → number_at w64 (front ++ to_le_bytes w64 n ++ rest) (length front) ≡ Some (n, length front + 8)
u64_back front rest n small = number_back w64 front (to_le_bytes w64 n) rest n 8 refl refl (from_le_bytes-to_le_bytes_8 n small)

pub string_back : (front text rest : List ℕ) → length text < 2 ^ 32 → string_at (front ++ with_length text ++ rest) (length front) ≡ Some (text, length (front ++ with_length text))
string_back front text rest small =
    let head : List ℕ = to_le_bytes w32 (length text) in
    let apart : front ++ with_length text ++ rest ≡ front ++ head ++ (text ++ rest) = append_assoc front (head ++ text) rest ∙ ap (λ (l : List ℕ). front ++ l) (append_assoc head text rest) ∙ sym (append_assoc front head (text ++ rest)) in
    let size : length (front ++ head) ≡ length front + 4 = length-append front head in
    let all : length front + 4 + length text ≡ length (front ++ with_length text) = omega (arith, length-append front (with_length text), length-append head text) in
    ap (λ (l : List ℕ). string_at l (length front)) apart
    ∙ ap (λ (o : Option (ℕ × ℕ)). option_and_then (λ found. bytes_at found.0 (front ++ head ++ (text ++ rest)) found.1) o) (u32_back front (text ++ rest) (length text) small)
    ∙ ap (λ (l : List ℕ). bytes_at (length text) l (length front + 4)) (sym (append_assoc (front ++ head) text rest))
    ∙ ap (λ (k : ℕ). bytes_at (length text) (front ++ head ++ text ++ rest) k) (sym size)
    ∙ bytes_back (front ++ head) text rest (length text) refl
    ∙ ap (λ (k : ℕ). Some (text, k)) (ap (λ (k : ℕ). k + length text) size ∙ all)
