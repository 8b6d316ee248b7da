-- Lists of delays of at most seven days.
use Rattle.std.proofs.Common.{◌≡◌, ℕ, ◌<◌, ◌≤◌, true, List, ◌++◌, length, take, replicate, get_or, arith}
use Rattle.std.specs.List.{list_all}
use Rattle.std.proofs.lemmas.Bool.Decides.{nat_tests}
use Rattle.std.proofs.lemmas.List.Elements.{All-take, All-replicate}
use Rattle.std.proofs.lemmas.List.Folds.{list_all_at, list_all-append}
use Rattle.std.proofs.lemmas.List.Sums.{AllPass-from_list_all, list_all-from_AllPass}
use Rattle.mj_delays.specs.Limits.{is_short}

short_take : (n : ℕ) (xs : List ℕ) → list_all is_short xs ≡ true → list_all is_short (take n xs) ≡ true
short_take n xs h = list_all-from_AllPass is_short (take n xs) (All-take (λ x. is_short x ≡ true) n xs (AllPass-from_list_all is_short xs h))

is_short_true : (delay : ℕ) → delay ≤ 604_800_000 → is_short delay ≡ true
is_short_true delay le = grind (arith, nat_tests)

short_replicate : (m delay : ℕ) → delay ≤ 604_800_000 → list_all is_short (replicate m delay) ≡ true
short_replicate m delay le = list_all-from_AllPass is_short (replicate m delay) (All-replicate (λ x. is_short x ≡ true) m delay (is_short_true delay le))

short_append : (xs ys : List ℕ) → list_all is_short xs ≡ true → list_all is_short ys ≡ true → list_all is_short (xs ++ ys) ≡ true
short_append xs ys h g = grind (arith, list_all-append is_short xs ys)

-- short delays, cut or filled up with one that is short, are short
pub short_resized : (n m delay : ℕ) (xs : List ℕ) → list_all is_short xs ≡ true → delay ≤ 604_800_000 → list_all is_short (take n xs ++ replicate m delay) ≡ true
short_resized n m delay xs h le = short_append (take n xs) (replicate m delay) (short_take n xs h) (short_replicate m delay le)

is_short_le : (delay : ℕ) → is_short delay ≡ true → delay ≤ 604_800_000
is_short_le delay h = grind (arith, nat_tests)

-- each of short delays is short
pub short_at : (xs : List ℕ) (i : ℕ) → list_all is_short xs ≡ true → i < length xs → get_or xs i 0 ≤ 604_800_000
short_at xs i h lt = is_short_le (get_or xs i 0) (grind (arith, list_all_at is_short xs i 0 lt))
