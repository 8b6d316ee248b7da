-- An address with its local part in lower case is one.
use Rattle.std.proofs.Common.{◌≡◌, ℕ, ◌+◌, Bool, true, false, cond, nat_lt, ◌==◌, List, [], ◌∷◌, length, map, refl, ap, ◌∙◌, not, arith}
use Rattle.std.proofs.lemmas.Bool.Decides.{nat_tests}
use Rattle.std.proofs.lemmas.Bool.{and_parts}
use Rattle.std.proofs.lemmas.List.{length-map}
use Rattle.std.proofs.lemmas.List.Folds.{list_all-map}
use Rattle.std.specs.Char.{is_ascii_alphanumeric, to_ascii_lowercase}
use Rattle.std.specs.List.{list_all, slice_split, onto_first}
use Rattle.std.specs.Str.{str_to_ascii_lowercase}
use Rattle.mj_address.specs.Grammar.{is_dot, is_atom_byte, is_atom, is_dot_atom, IsLocal, IsAddress}
use Rattle.mj_address.specs.Same.{with_lower_local}
use Rattle.mj_address.proofs.Spellings.{all_weaker}

-- a letter in lower case is a letter
small_letter : (b : ℕ) → nat_lt b 65 ≡ false → nat_lt b 91 ≡ true → is_atom_byte (b + 32) ≡ true
small_letter b above below =
    let letter : is_ascii_alphanumeric (b + 32) ≡ true = grind (arith, nat_tests) in
    rw letter refl

lower_atom_byte : (b : ℕ) → is_atom_byte b ≡ true → is_atom_byte (to_ascii_lowercase b) ≡ true
lower_atom_byte b atom = by (nat_lt b 65) (nat_lt b 91) refl refl
  where
    by : (low high : Bool) → nat_lt b 65 ≡ low → nat_lt b 91 ≡ high → is_atom_byte (cond low b (cond high (b + 32) b)) ≡ true
    by true high _ _ = atom
    by false true above below = small_letter b above below
    by false false _ _ = atom

lower_dot : (b : ℕ) → is_dot (to_ascii_lowercase b) ≡ is_dot b
lower_dot b = by (nat_lt b 65) (nat_lt b 91) refl refl
  where
    by : (low high : Bool) → nat_lt b 65 ≡ low → nat_lt b 91 ≡ high → is_dot (cond low b (cond high (b + 32) b)) ≡ is_dot b
    by true high _ _ = refl
    by false true above below = grind (arith, nat_tests)
    by false false _ _ = refl

lower_onto : (b : ℕ) (parts : List (List ℕ)) → onto_first (to_ascii_lowercase b) (map str_to_ascii_lowercase parts) ≡ map str_to_ascii_lowercase (onto_first b parts)
lower_onto b [] = refl
lower_onto b (part ∷ parts) = refl

-- the text in lower case is cut at the same dots
lower_pieces : (text : List ℕ) → slice_split is_dot (str_to_ascii_lowercase text) ≡ map str_to_ascii_lowercase (slice_split is_dot text)
lower_pieces [] = refl
lower_pieces (b ∷ text) = rw (lower_dot b) (by (is_dot b) (lower_pieces text))
  where
    by : (dot : Bool) → slice_split is_dot (str_to_ascii_lowercase text) ≡ map str_to_ascii_lowercase (slice_split is_dot text)
        → cond dot ([] ∷ slice_split is_dot (str_to_ascii_lowercase text)) (onto_first (to_ascii_lowercase b) (slice_split is_dot (str_to_ascii_lowercase text)))
        ≡ map str_to_ascii_lowercase (cond dot ([] ∷ slice_split is_dot text) (onto_first b (slice_split is_dot text)))
    by true later = ap (λ parts. [] ∷ parts) later
    by false later = ap (onto_first (to_ascii_lowercase b)) later ∙ lower_onto b (slice_split is_dot text)

lower_atom_bytes : (piece : List ℕ) → list_all is_atom_byte piece ≡ true → list_all is_atom_byte (str_to_ascii_lowercase piece) ≡ true
lower_atom_bytes [] all = refl
lower_atom_bytes (b ∷ piece) all =
    let both = and_parts (is_atom_byte b) (list_all is_atom_byte piece) all in
    rw (lower_atom_byte b both.0) (lower_atom_bytes piece both.1)

lower_atom : (piece : List ℕ) → is_atom piece ≡ true → is_atom (str_to_ascii_lowercase piece) ≡ true
lower_atom piece atom =
    let both = and_parts (not (length piece == 0)) (list_all is_atom_byte piece) atom in
    rw (length-map piece to_ascii_lowercase, both.0) (lower_atom_bytes piece both.1)

lower_form : (text : List ℕ) → is_dot_atom text ≡ true → is_dot_atom (str_to_ascii_lowercase text) ≡ true
lower_form text form =
    ap (list_all is_atom) (lower_pieces text)
    ∙ list_all-map is_atom str_to_ascii_lowercase (slice_split is_dot text)
    ∙ all_weaker is_atom (λ piece. is_atom (str_to_ascii_lowercase piece)) lower_atom (slice_split is_dot text) form

lower_local : (text : List ℕ) → IsLocal text → IsLocal (str_to_ascii_lowercase text)
lower_local text local = record { short = rw (length-map text to_ascii_lowercase) local.short; form = lower_form text local.form }

pub lower_address : (address : List ℕ × List ℕ) → IsAddress address → IsAddress (with_lower_local address)
lower_address address form = record { local = lower_local address.0 form.local; domain = form.domain }
