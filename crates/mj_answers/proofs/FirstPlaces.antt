-- The places of rows, put from the last row to the first, and the row that they lead to.
use Rattle.std.proofs.Common.{◌≡◌, ◌∙◌, ℕ, zero, suc, ◌+◌, ◌<◌, ◌≤◌, min, nat_lt, nat_eq, Bool, true, false, not, cond, ◌&&◌, ◌||◌, List, [], ◌∷◌, length, get_or, drop, slice_get, Option, None, Some, refl, sym, ap, arith}
use Rattle.std.proofs.lemmas.Bool.{and_parts}
use Rattle.std.proofs.lemmas.Bool.Decides.{nat_tests}
use Rattle.std.proofs.lemmas.Iterator.Adapters.{position_from-zero}
use Rattle.std.proofs.lemmas.List.{drop_all, drop_more}
use Rattle.std.proofs.lemmas.List.Folds.{find_at}
use Rattle.std.proofs.lemmas.Option.{slice_get_past}
use Rattle.std.specs.List.{find, list_all, position, position_from, position_or_len}
use Rattle.std.specs.Option.{option_eq, option_map_or}
use Rattle.indexmap.specs.IndexMap.{IndexMap, get}
use Rattle.mj_terms.specs.Text.{same_text}
use Rattle.mj_address.specs.Grammar.{Mailbox}
use Rattle.mj_address.specs.Same.{same_address}
use Rattle.mj_mail.specs.Reply.{is_reply}
use Rattle.mj_answers.specs.declared.keys.Keys.{Keys}
use Rattle.mj_answers.specs.declared.row.Row.{Row}
use Rattle.mj_answers.specs.Fitting.{fits}
use Rattle.mj_answers.specs.Places.{HasFirstPlaces, earlier, has_reply, is_at, is_for_recipient, same_keys}

-- ---- The places while they are put

-- a map has the places of the first rows among those from a place on
abbrev pub HasPlacesFrom : {S : Type 0} → ℕ → List Row → IndexMap Keys ℕ S → Type 0
HasPlacesFrom k rows places = (wanted : Keys) → get same_keys places wanted ≡ position_from (is_at wanted) k (drop k rows)

module _ {S : Type 0} (rows : List Row) where
  -- no row is put yet
  pub no_row : (k : ℕ) (places : IndexMap Keys ℕ S) → length rows ≤ k → places.entries ≡ [] → HasPlacesFrom k rows places
  no_row k places long empty wanted = rw (empty, drop_all k rows long) refl

  -- the row in front of those is put
  pub next_row : (k : ℕ) (row : Row) (old new : IndexMap Keys ℕ S) → k < length rows → row ≡ get_or rows k row → HasPlacesFrom (k + 1) rows old
      → ((wanted : Keys) → get same_keys new wanted ≡ cond (is_at wanted row) (Some k) (get same_keys old wanted)) → HasPlacesFrom k rows new
  next_row k row old new within at so_far put wanted =
      put wanted
      ∙ (λ i. cond (is_at wanted (at i)) (Some k) (so_far wanted i))
      ∙ ap (position_from (is_at wanted) k) (sym (drop_more rows k row within))

  -- all rows are put
  pub all_rows : (k : ℕ) (places : IndexMap Keys ℕ S) → k ≤ 0 → HasPlacesFrom k rows places → HasFirstPlaces rows places
  all_rows zero places none so_far wanted = so_far wanted ∙ sym (position_from-zero (is_at wanted) rows)
  all_rows (suc k) places none so_far wanted = absurd (omega arith)

-- ---- The first place of two

-- what passes one of two tests first
first_of_both : {X : Type 0} (p q : X → Bool) (xs : List X) → position_or_len (λ x. p x || q x) xs ≡ min (position_or_len p xs) (position_or_len q xs)
first_of_both p q [] = refl
first_of_both {X} p q (x ∷ xs) = by (p x) (q x) (first_of_both p q xs)
  where
    by : (a b : Bool) → position_or_len (λ x. p x || q x) xs ≡ min (position_or_len p xs) (position_or_len q xs)
        → cond (not (a || b)) (1 + position_or_len (λ x. p x || q x) xs) 0
        ≡ min (cond (not a) (1 + position_or_len p xs) 0) (cond (not b) (1 + position_or_len q xs) 0)
    by true true rest = grind (arith)
    by true false rest = grind (arith)
    by false true rest = grind (arith)
    by false false rest = grind (arith, rest)

-- a place that is one of a list with so many items
abbrev within : ℕ → ℕ → Option ℕ
within n k = cond (nat_lt k n) (Some k) None

earlier_within : (n a b : ℕ) → within n (min a b) ≡ earlier (within n a) (within n b)
earlier_within n a b = by (nat_lt a n) (nat_lt b n) refl refl
  where
    by : (s t : Bool) → nat_lt a n ≡ s → nat_lt b n ≡ t → within n (min a b) ≡ earlier (cond s (Some a) None) (cond t (Some b) None)
    by true true s t = let is : nat_lt (min a b) n ≡ true = grind (arith, nat_tests, s, t) in rw is refl
    by true false s t = let is : min a b ≡ a = grind (arith, nat_tests, s, t) in rw (is, s) refl
    by false true s t = let is : min a b ≡ b = grind (arith, nat_tests, s, t) in rw (is, t) refl
    by false false s t = let is : nat_lt (min a b) n ≡ false = grind (arith, nat_tests, s, t) in rw is refl

position_either : {X : Type 0} (p q : X → Bool) (xs : List X) → position (λ x. p x || q x) xs ≡ earlier (position p xs) (position q xs)
position_either p q xs = ap (within (length xs)) (first_of_both p q xs) ∙ earlier_within (length xs) (position_or_len p xs) (position_or_len q xs)

pub place_of_either : {X : Type 0} (p q : X → Bool) (xs : List X) (place a b : Option ℕ) → place ≡ earlier a b → a ≡ position p xs → b ≡ position q xs
    → place ≡ position (λ x. p x || q x) xs
place_of_either p q xs place a b is first second = is ∙ (λ i. earlier (first i) (second i)) ∙ sym (position_either p q xs)

-- ---- The place of the first row that fits

-- a key that is the one that is asked for, or missing
key_either : {X : Type 0} (eq : X → X → Bool) (x : X) (key : Option X) → option_map_or (eq x) key true ≡ (option_eq eq (Some x) key || option_eq eq None key)
key_either eq x None = refl
key_either eq x (Some y) = or_false (eq x y)
  where
    or_false : (a : Bool) → a ≡ (a || false)
    or_false true = refl
    or_false false = refl

left : (a b c : Bool) → ((a || b) && c) ≡ ((a && c) || (b && c))
left true true true = refl
left true true false = refl
left true false true = refl
left true false false = refl
left false b c = refl

right : (a b c : Bool) → (a && (b || c)) ≡ ((a && b) || (a && c))
right true b c = refl
right false b c = refl

-- a row fits where it is one of those that the look-up wants
attempts : (h r n o : Bool) → (h && (r && (n || o))) ≡ ((h && (r && n)) || (h && (r && o)))
attempts h r n o = ap (λ x. h && x) (right r n o) ∙ right h (r && n) (r && o)

recipients : (h r s n o : Bool) → (h && ((r || s) && (n || o))) ≡ (((h && (r && n)) || (h && (r && o))) || ((h && (s && n)) || (h && (s && o))))
recipients h r s n o =
    ap (λ x. h && x) (left r s (n || o))
    ∙ right h (r && (n || o)) (s && (n || o))
    ∙ (λ i. attempts h r n o i || attempts h s n o i)

fits_either : (host : List ℕ) (recipient : Mailbox) (attempt : ℕ) (row : Row)
    → fits host recipient attempt row ≡ (is_for_recipient (Some host) recipient attempt row || is_for_recipient None recipient attempt row)
fits_either host recipient attempt row =
    let h = option_eq same_text (Some host) row.host in
    let i = option_eq same_text None row.host in
    let r = option_eq same_address (Some recipient) row.recipient in
    let s = option_eq same_address None row.recipient in
    let n = option_eq nat_eq (Some attempt) row.attempt in
    let o = option_eq nat_eq None row.attempt in
    (λ j. key_either same_text host row.host j && (key_either same_address recipient row.recipient j && key_either nat_eq attempt row.attempt j))
    ∙ left h i ((r || s) && (n || o))
    ∙ (λ j. recipients h r s n o j || recipients i r s n o j)

pub place_that_fits : (host : List ℕ) (recipient : Mailbox) (attempt : ℕ) (rows : List Row)
    → position (fits host recipient attempt) rows
    ≡ earlier (position (is_for_recipient (Some host) recipient attempt) rows) (position (is_for_recipient None recipient attempt) rows)
place_that_fits host recipient attempt rows =
    ap (λ test. position test rows) (λ i row. fits_either host recipient attempt row i)
    ∙ position_either (is_for_recipient (Some host) recipient attempt) (is_for_recipient None recipient attempt) rows

-- ---- The row at the place

-- the item at a place, if there is one
abbrev pub item_at : {X : Type 0} → List X → Option ℕ → Option X
item_at xs None = None
item_at xs (Some k) = slice_get xs k

pub row_at : {X : Type 0} (test : X → Bool) (xs : List X) (place : Option ℕ) → place ≡ position test xs → item_at xs place ≡ find test xs
row_at {X} test xs place is = ap (item_at xs) is ∙ by (nat_lt (position_or_len test xs) (length xs)) refl ∙ sym (find_at test xs)
  where
    by : (b : Bool) → nat_lt (position_or_len test xs) (length xs) ≡ b
        → item_at xs (cond b (Some (position_or_len test xs)) None) ≡ slice_get xs (position_or_len test xs)
    by true lt = refl
    by false lt = sym (slice_get_past xs (position_or_len test xs) (grind (arith, nat_tests, lt)))

-- each reply of the table has the form of replies
pub row_formed : (test : Row → Bool) (rows : List Row) (row : Row) → Some row ≡ find test rows → list_all has_reply rows ≡ true → is_reply row.reply ≡ true
row_formed test [] row found all = absurd (cc)
row_formed test (first ∷ rows) row found all =
    let parts = and_parts (has_reply first) (list_all has_reply rows) all in
    by (test first) found parts.0 (λ is. row_formed test rows row is parts.1)
  where
    by : (b : Bool) → Some row ≡ cond b (Some first) (find test rows) → has_reply first ≡ true
        → (Some row ≡ find test rows → is_reply row.reply ≡ true) → is_reply row.reply ≡ true
    by true is here later = let same : row ≡ first = cc in ap has_reply same ∙ here
    by false is here later = later is
