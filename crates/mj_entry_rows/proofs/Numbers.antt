-- Numbers of a fixed size, strings behind their length, and pairs of them.
use Rattle.std.proofs.Common.{◌≡◌, ℕ, zero, suc, ◌*◌, ◌%◌, ◌<◌, ◌≤◌, ◌^◌, nat_le, true, if◌then◌else◌, List, [], ◌∷◌, ◌++◌, length, take, drop, Some, None, refl, sym, ap, ◌∙◌, subst, arith, append_assoc, length-append}
use Rattle.std.specs.Int.{Width, w8, w16, w32, w64, byte_len, to_le_bytes, from_le_bytes}
use Rattle.std.proofs.lemmas.Bool.{leb-true, le-leb}
use Rattle.std.proofs.lemmas.List.{take_at, drop_at, take-append-drop, length-take}
use Rattle.std.proofs.lemmas.Nat.{from_le_bytes-to_le_bytes_2, from_le_bytes-to_le_bytes_4, from_le_bytes-to_le_bytes_8, le_bytes_2, le_bytes_4, le_bytes_8}
use Rattle.mj_fields.specs.Fields.{with_length}
use Rattle.mj_mail.specs.Entry.{pair_form}
use Rattle.mj_entry_rows.specs.Forms.{IsCounted}
use Rattle.mj_entry_rows.specs.Readings.{AreBytes, IsRow, bytes_in, number_in, pair_in, string_in, then_in}
use Rattle.mj_entry_rows.proofs.Rows.{both_row, parts_in, passed, same_found}

-- ---- So many bytes

-- they are cut off in front
front_in : (piece rest : List ℕ) → bytes_in (length piece) (piece ++ rest) ≡ Some (piece, rest)
front_in piece rest =
    let within : length piece ≤ length (piece ++ rest) = omega (arith, length-append piece rest) in
    let fits : nat_le (length piece) (length (piece ++ rest)) ≡ true = le-leb (length piece) (length (piece ++ rest)) within in
    ap (λ b. if b then Some (take (length piece) (piece ++ rest), drop (length piece) (piece ++ rest)) else None) fits
    ∙ (λ i. Some (take_at piece rest (length piece) refl i, drop_at piece rest (length piece) refl i))

-- and what is cut off stood in front
split_in : (count : ℕ) (bytes piece rest : List ℕ) → bytes_in count bytes ≡ Some (piece, rest) → (length piece ≡ count) × (bytes ≡ piece ++ rest)
split_in count bytes piece rest h =
    let pass = passed (nat_le count (length bytes)) (Some (take count bytes, drop count bytes)) (piece, rest) h in
    let same = same_found (take count bytes, drop count bytes) (piece, rest) pass.1 in
    let fits : count ≤ length bytes = leb-true count (length bytes) pass.0 in
    let size : length piece ≡ count = ap length (sym same.0) ∙ omega (arith, length-take count bytes) in
    (size, sym (take-append-drop count bytes) ∙ (λ i. same.0 i ++ same.1 i))

-- bytes before others are bytes
front_bytes : (piece rest : List ℕ) → AreBytes (piece ++ rest) → AreBytes piece
front_bytes [] rest small i = omega arith
front_bytes (b ∷ piece) rest small zero = small 0
front_bytes (b ∷ piece) rest small (suc i) = front_bytes piece rest (λ k. small (suc k)) i

-- ---- Numbers

-- numbers of this width are found again in their bytes, and bytes in their number
record IsWidth (w : Width) : Type 0 where
  size : (n : ℕ) → length (to_le_bytes w n) ≡ byte_len w
  number : (n : ℕ) → n < 2 ^ (8 * byte_len w) → from_le_bytes w (to_le_bytes w n) ≡ n
  bound : (digits : List ℕ) → AreBytes digits → from_le_bytes w digits < 2 ^ (8 * byte_len w)
  digits : (digits : List ℕ) → length digits ≡ byte_len w → AreBytes digits → to_le_bytes w (from_le_bytes w digits) ≡ digits

written_1 : (digits : List ℕ) → length digits ≡ 1 → AreBytes digits → to_le_bytes w8 (from_le_bytes w8 digits) ≡ digits
written_1 [] size small = absurd (omega arith)
written_1 (a ∷ []) size small =
    let one : from_le_bytes w8 (a ∷ []) % 256 ≡ a = omega (arith, small 0) in
    ap (λ b. b ∷ []) one
written_1 (a ∷ b ∷ digits) size small = absurd (omega arith)

width_8 : IsWidth w8
width_8 = record {
  size = λ n. refl;
  number = λ n small. omega arith;
  bound = λ digits small. small 0;
  digits = written_1;
}

width_16 : IsWidth w16
width_16 = record {
  size = λ n. refl;
  number = from_le_bytes-to_le_bytes_2;
  bound = λ digits small. omega (arith, small 0, small 1);
  digits = λ digits size small. le_bytes_2 digits (from_le_bytes w16 digits) size small refl;
}

width_32 : IsWidth w32
width_32 = record {
  size = λ n. refl;
  number = from_le_bytes-to_le_bytes_4;
  bound = λ digits small. omega (arith, small 0, small 1, small 2, small 3);
  digits = λ digits size small. le_bytes_4 digits (from_le_bytes w32 digits) size small refl;
}

width_64 : IsWidth w64
width_64 = record {
  size = λ n. refl;
  number = from_le_bytes-to_le_bytes_8;
  bound = λ digits small. omega (arith, small 0, small 1, small 2, small 3, small 4, small 5, small 6, small 7);
  digits = λ digits size small. le_bytes_8 digits (from_le_bytes w64 digits) size small refl;
}

module _ (w : Width) (width : IsWidth w) where
  number_again : (n : ℕ) (rest : List ℕ) → n < 2 ^ (8 * byte_len w) → number_in w (to_le_bytes w n ++ rest) ≡ Some (n, rest)
  number_again n rest small =
      ap (λ count. then_in (bytes_in count (to_le_bytes w n ++ rest)) (λ digits end. Some (from_le_bytes w digits, end))) (sym (width.size n))
      ∙ ap (λ found. then_in found (λ digits end. Some (from_le_bytes w digits, end))) (front_in (to_le_bytes w n) rest)
      ∙ ap (λ m. Some (m, rest)) (width.number n small)

  number_written : (bytes : List ℕ) (n : ℕ) (rest : List ℕ) → AreBytes bytes → number_in w bytes ≡ Some (n, rest)
      → (n < 2 ^ (8 * byte_len w)) × (bytes ≡ to_le_bytes w n ++ rest)
  number_written bytes n rest small h =
      let one = parts_in (bytes_in (byte_len w) bytes) (λ digits end. Some (from_le_bytes w digits, end)) n rest h in
      let split = split_in (byte_len w) bytes one.item one.behind one.read in
      let same = same_found (from_le_bytes w one.item, one.behind) (n, rest) one.goes_on in
      let digits : AreBytes one.item = front_bytes one.item one.behind (subst AreBytes split.1 small) in
      let back : one.item ≡ to_le_bytes w n = sym (width.digits one.item split.0 digits) ∙ ap (to_le_bytes w) same.0 in
      (subst (λ m. m < 2 ^ (8 * byte_len w)) same.0 (width.bound one.item digits), split.1 ∙ (λ i. back i ++ same.1 i))

  -- a number of this width
  number_row : IsRow (λ n. n < 2 ^ (8 * byte_len w)) (to_le_bytes w) (number_in w)
  number_row = record { again = number_again; written = number_written }

pub byte_row : IsRow (λ n. n < 2 ^ 8) (to_le_bytes w8) (number_in w8)
byte_row = number_row w8 width_8

pub short_row : IsRow (λ n. n < 2 ^ 16) (to_le_bytes w16) (number_in w16)
short_row = number_row w16 width_16

pub word_row : IsRow (λ n. n < 2 ^ 32) (to_le_bytes w32) (number_in w32)
word_row = number_row w32 width_32

pub long_row : IsRow (λ n. n < 2 ^ 64) (to_le_bytes w64) (number_in w64)
long_row = number_row w64 width_64

-- ---- Strings

string_again : (text rest : List ℕ) → IsCounted text → string_in (with_length text ++ rest) ≡ Some (text, rest)
string_again text rest counted =
    ap string_in (append_assoc (to_le_bytes w32 (length text)) text rest)
    ∙ ap (λ found. then_in found bytes_in) (word_row.again (length text) (text ++ rest) counted)
    ∙ front_in text rest

string_written : (bytes text rest : List ℕ) → AreBytes bytes → string_in bytes ≡ Some (text, rest)
    → IsCounted text × (bytes ≡ with_length text ++ rest)
string_written bytes text rest small h =
    let one = parts_in (number_in w32 bytes) bytes_in text rest h in
    let count = word_row.written bytes one.item one.behind small one.read in
    let split = split_in one.item one.behind text rest one.goes_on in
    let whole : bytes ≡ to_le_bytes w32 (length text) ++ (text ++ rest) = count.1 ∙ (λ i. to_le_bytes w32 (sym split.0 i) ++ split.1 i) in
    (subst (λ n. n < 2 ^ 32) (sym split.0) count.0, whole ∙ sym (append_assoc (to_le_bytes w32 (length text)) text rest))

-- a string behind its length
pub string_row : IsRow IsCounted with_length string_in
string_row = record { again = string_again; written = string_written }

-- two strings that can be counted
abbrev pub IsPair : List ℕ × List ℕ → Type 0
IsPair pair = IsCounted pair.0 × IsCounted pair.1

pub pair_row : IsRow IsPair pair_form pair_in
pair_row = both_row string_row string_row
