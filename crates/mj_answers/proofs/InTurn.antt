-- Lists that are read item by item: what was read so far, ahead of what the rest gives.
use Rattle.std.proofs.Common.{◌≡◌, ◌∙◌, ℕ, ◌+◌, ◌<◌, Bool, true, refl, sym, ap, add-one, get_or, List, [], ◌∷◌, ◌++◌, length, drop, map, Result, Ok, Err}
use Rattle.std.proofs.lemmas.List.{append_assoc, at_drop_more}
use Rattle.std.proofs.lemmas.List.Folds.{list_all-append}
use Rattle.std.specs.List.{list_all}
use Rattle.toml.specs.Data.{Members}
use Rattle.toml.specs.View.{items_view}
use Rattle.toml.specs.declared.value.Value.{Value}
use Rattle.mj_terms.specs.Answers.{◌>>=◌}
use Rattle.mj_answers.specs.declared.row.Row.{Row}
use Rattle.mj_answers.specs.Reading.{items_len, located, row_of, rows_from}

abbrev pub ahead : {X E : Type 0} → List X → Result (List X) E → Result (List X) E
ahead so_far (Ok xs) = Ok (so_far ++ xs)
ahead so_far (Err fault) = Err fault

-- with one more so far
ahead_next : {X E : Type 0} (so_far : List X) (x : X) (rest : Result (List X) E) → ahead so_far (rest >>= λ xs. Ok (x ∷ xs)) ≡ ahead (so_far ++ x ∷ []) rest
ahead_next so_far x (Ok xs) = rw (append_assoc so_far (x ∷ []) xs)
ahead_next so_far x (Err fault) = refl

-- the first row is read
row_read : (number : ℕ) (row : Row) (table : Members) (rest : List Members) → located number (row_of table) ≡ Ok row
    → rows_from number (table ∷ rest) ≡ (rows_from (number + 1) rest >>= λ rows. Ok (row ∷ rows))
row_read number row table rest read = rw read

-- the row at a place of the list is read
pub row_next : {R : Type 0} (seen : R → Members) (list : List R) (k number : ℕ) (r : R) (rows more : List Row) (row : Row)
    → k < length list → r ≡ get_or list k r → number ≡ k + 1 → located number (row_of (seen r)) ≡ Ok row → more ≡ rows ++ row ∷ []
    → ahead rows (rows_from (k + 1) (map seen (drop k list))) ≡ ahead more (rows_from (k + 1 + 1) (map seen (drop (k + 1) list)))
row_next seen list k number r rows more row within at numbered read grown =
    let rest = map seen (drop (k + 1) list) in
    let here : located (k + 1) (row_of (seen r)) ≡ Ok row = ap (λ n. located n (row_of (seen r))) (sym numbered) ∙ read in
    at_drop_more (λ left. ahead rows (rows_from (k + 1) (map seen left))) list k r within
    ∙ ap (λ a. ahead rows (rows_from (k + 1) (seen a ∷ rest))) (sym at)
    ∙ ap (ahead rows) (row_read (k + 1) row (seen r) rest here)
    ∙ ahead_next rows row (rows_from (k + 1 + 1) rest)
    ∙ ap (λ xs. ahead xs (rows_from (k + 1 + 1) rest)) (sym grown)

-- one more passes the test too
pub all_more : {X : Type 0} (test : X → Bool) (xs more : List X) (x : X) → list_all test xs ≡ true → test x ≡ true → more ≡ xs ++ x ∷ []
    → list_all test more ≡ true
all_more test xs more x all here grown = rw (grown, list_all-append test xs (x ∷ []), all, here) refl

-- as many items as values
pub items_count : (values : List Value) → items_len (items_view values) ≡ length values
items_count [] = refl
items_count (value ∷ values) = ap (λ n. n + 1) (items_count values) ∙ add-one (length values)
