-- What callers of a queue can say of each pair.
use Rattle.std.proofs.Common.{ℕ, List}
use Rattle.std.specs.List.{All}
use Rattle.std.proofs.lemmas.List.Elements.{All-from_recursion, recursion_from_All}
use Rattle.mj_ready.specs.Due.{is_before, inserted}
use Rattle.mj_ready.proofs.Ordered.{pairs_in_order, all-inserted}

-- what holds of each pair still does when one more is put in of which it holds
pub All-inserted : (P : ℕ × ℕ → Type 0) (pair : ℕ × ℕ) (pairs : List (ℕ × ℕ)) → P pair → All P pairs
    → All P (inserted is_before pair pairs)
All-inserted P pair pairs holds all =
    All-from_recursion P (inserted is_before pair pairs)
    (all-inserted is_before pairs_in_order P pair pairs holds (recursion_from_All P pairs all))
