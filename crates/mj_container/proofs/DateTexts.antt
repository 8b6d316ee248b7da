-- A date text has at most 31 bytes.
use Rattle.std.proofs.Common.{◌≡◌, ℕ, zero, suc, ◌+◌, ◌-◌, ◌/◌, ◌%◌, ◌≤◌, List, [], ◌∷◌, length, get_or, refl, arith}
use Rattle.std.proofs.lemmas.Bool.{and_parts, leb-true}
use Rattle.std.proofs.lemmas.List.{length-append}
use Rattle.std.specs.Prelude.{nat_le, true, Bool, codes}
use Rattle.std.specs.List.{concat, list_all}
use Rattle.mj_time.specs.DateText.{date_text_of, line_of, month_name, two_digits, weekday_name}

-- the name of a day or of a month
abbrev is_short_name : List ℕ → Bool
is_short_name name = nat_le (length name) 3

name_at : (names : List (List ℕ)) (n : ℕ) → list_all is_short_name names ≡ true → is_short_name (get_or names n []) ≡ true
name_at [] n all = refl
name_at (name ∷ names) zero all = (and_parts (is_short_name name) (list_all is_short_name names) all).0
name_at (name ∷ names) (suc n) all = name_at names n (and_parts (is_short_name name) (list_all is_short_name names) all).1

weekday_short : (n : ℕ) → length (weekday_name n) ≤ 3
weekday_short n =
    leb-true (length (weekday_name n)) 3 (name_at (codes "Mon" ∷ codes "Tue" ∷ codes "Wed" ∷ codes "Thu" ∷ codes "Fri" ∷ codes "Sat" ∷ codes "Sun" ∷ []) n refl)

month_short : (n : ℕ) → length (month_name n) ≤ 3
month_short n =
    leb-true (length (month_name n)) 3
    (name_at (codes "Jan" ∷ codes "Feb" ∷ codes "Mar" ∷ codes "Apr" ∷ codes "May" ∷ codes "Jun" ∷ codes "Jul" ∷ codes "Aug" ∷ codes "Sep" ∷ codes "Oct" ∷ codes "Nov" ∷ codes "Dec" ∷ []) (n - 1) refl)

-- the sum of the lengths
abbrev lengths : List (List ℕ) → ℕ
lengths [] = 0
lengths (piece ∷ pieces) = length piece + lengths pieces

length_pieces : (pieces : List (List ℕ)) → length (concat pieces) ≡ lengths pieces
length_pieces [] = refl
length_pieces (piece ∷ pieces) = omega (arith, length-append piece (concat pieces), length_pieces pieces)

line_short : (weekday year month day second : ℕ) → length (line_of weekday year month day second) ≤ 31
unfolding line_of
line_short weekday year month day second =
    omega (arith, weekday_short weekday, month_short month, length_pieces (weekday_name weekday ∷ codes ", " ∷ two_digits day ∷ codes " " ∷ month_name month ∷ codes " " ∷ two_digits (year / 100) ∷ two_digits (year % 100) ∷ codes " " ∷ two_digits (second / 3_600) ∷ codes ":" ∷ two_digits (second / 60 % 60) ∷ codes ":" ∷ two_digits (second % 60) ∷ codes " +0000" ∷ []))

pub date_short : (moment : ℕ) → length (date_text_of moment) ≤ 31
date_short moment = line_short _ _ _ _ _
