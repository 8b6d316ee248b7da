-- The places of rows, put from the last row to the first, and the row that they lead to.
use Rattle.std.proofs.Common.{◌≡◌, ◌∙◌, ℕ, zero, suc, ◌+◌, ◌<◌, ◌≤◌, min, nat_lt, Bool, true, false, not, cond, ◌||◌, List, [], ◌∷◌, length, get_or, drop, slice_get, Option, None, Some, refl, sym, ap, arith}
use Rattle.std.proofs.lemmas.Bool.Decides.{nat_tests}
use Rattle.std.proofs.lemmas.Iterator.Adapters.{position_from-zero}
use Rattle.std.proofs.lemmas.List.{drop_all, drop_more}
use Rattle.std.proofs.lemmas.List.Folds.{find_at}
use Rattle.std.proofs.lemmas.Option.{slice_get_past}
use Rattle.std.specs.List.{find, position, position_from, position_or_len}
use Rattle.indexmap.specs.IndexMap.{IndexMap, get}
use Rattle.mj_address.specs.Grammar.{Mailbox}
use Rattle.mj_address.specs.Same.{same_address}
use Rattle.mj_plan.specs.declared.plan.Mapping.{Mapping}
use Rattle.mj_plan.specs.declared.plan.Mapping.TheVariants.{Addresses, Error, Host}
use Rattle.mj_plan.specs.Places.{HasFirstPlaces, earlier, is_from_address, is_from_domain}
use Rattle.mj_plan.specs.Rewriting.{fits, mapping_of}

-- a map has the places of the first rows among those from a place on
abbrev pub HasPlacesFrom : {K S : Type 0} → (K → K → Bool) → (K → Mapping → Bool) → ℕ → List Mapping → IndexMap K ℕ S → Type 0
HasPlacesFrom eq is_from k rows places = (wanted : _) → get eq places wanted ≡ position_from (is_from wanted) k (drop k rows)

module _ {K S : Type 0} (eq : K → K → Bool) (is_from : K → Mapping → Bool) (rows : List Mapping) where
  -- no row is put yet
  pub no_row : (k : ℕ) (places : IndexMap K ℕ S) → length rows ≤ k → places.entries ≡ [] → HasPlacesFrom eq is_from k rows places
  no_row k places long empty wanted = rw (empty, drop_all k rows long) refl

  -- the row in front of those is put
  pub next_row : (k : ℕ) (row : Mapping) (old new : IndexMap K ℕ S) → k < length rows → row ≡ get_or rows k row → HasPlacesFrom eq is_from (k + 1) rows old
      → ((wanted : K) → get eq new wanted ≡ cond (is_from wanted row) (Some k) (get eq old wanted)) → HasPlacesFrom eq is_from k rows new
  next_row k row old new within at so_far put wanted =
      put wanted
      ∙ (λ i. cond (is_from wanted (at i)) (Some k) (so_far wanted i))
      ∙ ap (position_from (is_from wanted) k) (sym (drop_more rows k row within))

  -- all rows are put
  pub all_rows : (k : ℕ) (places : IndexMap K ℕ S) → k ≤ 0 → HasPlacesFrom eq is_from k rows places → HasFirstPlaces eq is_from rows places
  all_rows zero places none so_far wanted = so_far wanted ∙ sym (position_from-zero (is_from wanted) rows)
  all_rows (suc k) places none so_far wanted = absurd (omega arith)

-- what passes one of two tests first
first_of_both : {X : Type 0} (p q : X → Bool) (xs : List X) → position_or_len (λ x. p x || q x) xs ≡ min (position_or_len p xs) (position_or_len q xs)
first_of_both p q [] = refl
first_of_both {X} p q (x ∷ xs) = by (p x) (q x) (first_of_both p q xs)
  where
    by : (a b : Bool) → position_or_len (λ x. p x || q x) xs ≡ min (position_or_len p xs) (position_or_len q xs)
        → cond (not (a || b)) (1 + position_or_len (λ x. p x || q x) xs) 0 ≡ min (cond (not a) (1 + position_or_len p xs) 0) (cond (not b) (1 + position_or_len q xs) 0)
    by true true rest = grind (arith)
    by true false rest = grind (arith)
    by false true rest = grind (arith)
    by false false rest = grind (arith, rest)

-- the item at a place, if there is one
abbrev pub item_at : {X : Type 0} → List X → Option ℕ → Option X
item_at xs None = None
item_at xs (Some k) = slice_get xs k

-- the item at the lesser of two places
at_earlier : {X : Type 0} (xs : List X) (a b : ℕ)
    → slice_get xs (min a b) ≡ item_at xs (earlier (cond (nat_lt a (length xs)) (Some a) None) (cond (nat_lt b (length xs)) (Some b) None))
at_earlier {X} xs a b = by (nat_lt a (length xs)) (nat_lt b (length xs)) refl refl
  where
    by : (s t : Bool) → nat_lt a (length xs) ≡ s → nat_lt b (length xs) ≡ t → slice_get xs (min a b) ≡ item_at xs (earlier (cond s (Some a) None) (cond t (Some b) None))
    by true true s t = refl
    by true false s t = ap (slice_get xs) (grind (arith, nat_tests, s, t))
    by false true s t = ap (slice_get xs) (grind (arith, nat_tests, s, t))
    by false false s t = slice_get_past xs (min a b) (grind (arith, nat_tests, s, t))

or_false : (a : Bool) → a ≡ (a || false)
or_false true = refl
or_false false = refl

-- a row fits an address where it is from the address or from its domain
fits_either : (address : Mailbox) (row : Mapping) → fits address row ≡ (is_from_address address row || is_from_domain address.1 row)
fits_either address (Addresses from to) = or_false (same_address address from)
fits_either address (Error from text) = or_false (same_address address from)
fits_either address (Host from to) = refl

-- the mapping of an address stands at the earlier of the two places
pub mapping_at : (address : Mailbox) (rows : List Mapping) (by_address by_domain place : Option ℕ) → by_address ≡ position (is_from_address address) rows
    → by_domain ≡ position (is_from_domain address.1) rows → place ≡ earlier by_address by_domain → item_at rows place ≡ mapping_of address rows
mapping_at address rows by_address by_domain place a b first =
    ap (item_at rows) first
    ∙ (λ i. item_at rows (earlier (a i) (b i)))
    ∙ sym (at_earlier rows (position_or_len (is_from_address address) rows) (position_or_len (is_from_domain address.1) rows))
    ∙ ap (slice_get rows) (sym (first_of_both (is_from_address address) (is_from_domain address.1) rows))
    ∙ sym (find_at (λ row. is_from_address address row || is_from_domain address.1 row) rows)
    ∙ sym (ap (λ test. find test rows) (λ i row. fits_either address row i))
