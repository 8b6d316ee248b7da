-- Addresses and date texts are values of fields: on one line, and short.
use Rattle.std.proofs.Common.{◌≡◌, ◌+◌, ◌-◌, ◌/◌, ◌%◌, ℕ, zero, suc, Bool, true, false, not, ◌||◌, eqb, List, [], ◌∷◌, ◌++◌, length, get_or, refl, subst, sym, ◌∙◌, arith}
use Rattle.std.proofs.lemmas.Bool.Decides.{nat_tests}
use Rattle.std.proofs.lemmas.Bool.{and_parts, and_from, eqb-true, false≢true}
use Rattle.std.specs.Prelude.{◌==◌, codes}
use Rattle.std.specs.List.{concat, list_all, slice_split}
use Rattle.mj_address.specs.Grammar.{is_atom, is_atom_byte, is_dot, is_label, is_label_byte, IsAddress, IsDomain, IsLocal}
use Rattle.mj_address.specs.Reading.{spelled}
use Rattle.mj_address.proofs.Spellings.{all_weaker, bytes_of_pieces, label_bytes}
use Rattle.mj_head.specs.Fields.{is_field_value}
use Rattle.mj_head.specs.Head.{RawField, written}
use Rattle.mj_head.proofs.Changes.{length-written_push, list_all-append}
use Rattle.mj_time.specs.DateText.{date_text_of, line_of, month_name, two_digits, weekday_name}
use Rattle.mj_time.proofs.DateLines.{pieces}

-- a field more is so many bytes more
pub written_push : (fs : List RawField) (f : RawField) → length (written (fs ++ f ∷ [])) ≡ length (written fs) + (length f.0 + length f.1 + 3)
written_push = length-written_push

-- neither CR nor LF
abbrev is_plain : ℕ → Bool
is_plain b = not (b == 13 || b == 10)

bytes_weaker : (strict weak : ℕ → Bool) → ((b : ℕ) → strict b ≡ true → weak b ≡ true) → (text : List ℕ) → list_all strict text ≡ true → list_all weak text ≡ true
bytes_weaker strict weak h [] all = refl
bytes_weaker strict weak h (b ∷ text) all =
    let both = and_parts (strict b) (list_all strict text) all in
    and_from (weak b) (list_all weak text) (h b both.0) (bytes_weaker strict weak h text both.1)

-- what fails at CR and at LF passes plain bytes alone
plain_from : (test : ℕ → Bool) → test 13 ≡ false → test 10 ≡ false → (b : ℕ) → test b ≡ true → is_plain b ≡ true
plain_from test cr lf b h = by (eqb b 13) refl (eqb b 10) refl
  where
    by : (is_cr : Bool) → eqb b 13 ≡ is_cr → (is_lf : Bool) → eqb b 10 ≡ is_lf → is_plain b ≡ true
    by true e is_lf f = absurd (false≢true (sym cr ∙ subst (λ z. test z ≡ true) (eqb-true b 13 e) h))
    by false e true f = absurd (false≢true (sym lf ∙ subst (λ z. test z ≡ true) (eqb-true b 10 f) h))
    by false e false f = rw (e, f) refl

-- ---- Addresses

atom_bytes : (piece : List ℕ) → is_atom piece ≡ true → list_all is_atom_byte piece ≡ true
atom_bytes piece h = grind arith

plain_local : (local : List ℕ) → IsLocal local → is_field_value local ≡ true
plain_local local l =
    bytes_weaker (λ b. is_atom_byte b || is_dot b) is_plain (plain_from (λ b. is_atom_byte b || is_dot b) refl refl) local
    (bytes_of_pieces is_atom_byte is_dot local (all_weaker is_atom (list_all is_atom_byte) atom_bytes (slice_split is_dot local) l.form))

plain_domain : (domain : List ℕ) → IsDomain domain → is_field_value domain ≡ true
plain_domain domain d =
    bytes_weaker (λ b. is_label_byte b || is_dot b) is_plain (plain_from (λ b. is_label_byte b || is_dot b) refl refl) domain
    (bytes_of_pieces is_label_byte is_dot domain (all_weaker is_label (list_all is_label_byte) label_bytes (slice_split is_dot domain) d.form))

-- an address as it is spelled is the value of a field
pub address_value : (address : List ℕ × List ℕ) → IsAddress address → is_field_value (spelled address) ≡ true
address_value address form =
    list_all-append is_plain address.0 (64 ∷ address.1) (plain_local address.0 form.local) (plain_domain address.1 form.domain)

-- ---- Date texts

value_at : (names : List (List ℕ)) (n : ℕ) → list_all is_field_value names ≡ true → is_field_value (get_or names n []) ≡ true
value_at [] n all = refl
value_at (name ∷ names) zero all = (and_parts (is_field_value name) (list_all is_field_value names) all).0
value_at (name ∷ names) (suc n) all = value_at names n (and_parts (is_field_value name) (list_all is_field_value names) all).1

weekday_value : (n : ℕ) → is_field_value (weekday_name n) ≡ true
weekday_value n = value_at (codes "Mon" ∷ codes "Tue" ∷ codes "Wed" ∷ codes "Thu" ∷ codes "Fri" ∷ codes "Sat" ∷ codes "Sun" ∷ []) n refl

month_value : (n : ℕ) → is_field_value (month_name n) ≡ true
month_value n = value_at (codes "Jan" ∷ codes "Feb" ∷ codes "Mar" ∷ codes "Apr" ∷ codes "May" ∷ codes "Jun" ∷ codes "Jul" ∷ codes "Aug" ∷ codes "Sep" ∷ codes "Oct" ∷ codes "Nov" ∷ codes "Dec" ∷ []) (n - 1) refl

plain_digits : (n : ℕ) → is_field_value (two_digits n) ≡ true
plain_digits n = grind (arith, nat_tests)

plain_pieces : (pieces : List (List ℕ)) → list_all is_field_value pieces ≡ true → is_field_value (concat pieces) ≡ true
plain_pieces [] all = refl
plain_pieces (piece ∷ pieces) all =
    let both = and_parts (is_field_value piece) (list_all is_field_value pieces) all in
    list_all-append is_plain piece (concat pieces) both.0 (plain_pieces pieces both.1)

plain_line : (w d m c y h i s : List ℕ) → is_field_value w ≡ true → is_field_value d ≡ true → is_field_value m ≡ true → is_field_value c ≡ true → is_field_value y ≡ true → is_field_value h ≡ true → is_field_value i ≡ true → is_field_value s ≡ true → is_field_value (pieces w d m c y h i s) ≡ true
plain_line w d m c y h i s e1 e2 e3 e4 e5 e6 e7 e8 =
    plain_pieces (w ∷ codes ", " ∷ d ∷ codes " " ∷ m ∷ codes " " ∷ c ∷ y ∷ codes " " ∷ h ∷ codes ":" ∷ i ∷ codes ":" ∷ s ∷ codes " +0000" ∷ [])
    (rw (e1, e2, e3, e4, e5, e6, e7, e8) refl)

line_value : (weekday year month day second : ℕ) → is_field_value (line_of weekday year month day second) ≡ true
unfolding line_of
line_value weekday year month day second =
    plain_line (weekday_name weekday) (two_digits day) (month_name month) (two_digits (year / 100)) (two_digits (year % 100)) (two_digits (second / 3_600)) (two_digits (second / 60 % 60)) (two_digits (second % 60))
    (weekday_value weekday) (plain_digits day) (month_value month) (plain_digits (year / 100)) (plain_digits (year % 100)) (plain_digits (second / 3_600)) (plain_digits (second / 60 % 60)) (plain_digits (second % 60))

-- a date text is the value of a field
pub date_value : (moment : ℕ) → is_field_value (date_text_of moment) ≡ true
date_value moment = line_value _ _ _ _ _
