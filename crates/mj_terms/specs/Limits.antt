-- A text that is refused where it has more bytes than a limit: its front of one byte more says the same.
use Rattle.std.specs.Prelude.{◌≡◌, ℕ, ◌+◌, nat_lt, Bool, true, false, cond, List, length, take}
use Rattle.std.proofs.Common.{arith, refl}
use Rattle.std.proofs.lemmas.Bool.{lt-ltb, ltb-true, ltb-false}
use Rattle.std.proofs.lemmas.List.{take_all, length-take-le}

-- `over` where the text has more than so many bytes, else what it says
abbrev pub within : {X : Type 0} → ℕ → X → (List ℕ → X) → List ℕ → X
within limit over says text = cond (nat_lt limit (length text)) over (says text)

cases : {X : Type 0} (limit room : ℕ) (over : X) (says : List ℕ → X) (text : List ℕ) (b : Bool) → room ≡ limit + 1
    → nat_lt limit (length text) ≡ b → within limit over says (take room text) ≡ cond b over (says text)
cases limit room over says text true e long =
    let more = ltb-true limit (length text) long in
    let size : length (take room text) ≡ room = length-take-le room text (omega arith) in
    let still : nat_lt limit (length (take room text)) ≡ true = rw size (lt-ltb limit room (omega arith)) in
    rw still
cases limit room over says text false e short =
    let fits = ltb-false limit (length text) short in
    rw (take_all room text (omega arith), short)

-- so it is enough to read one byte more than the limit
pub within-take : {X : Type 0} (limit room : ℕ) (over : X) (says : List ℕ → X) (text : List ℕ) → room ≡ limit + 1
    → within limit over says (take room text) ≡ within limit over says text
within-take limit room over says text e = cases limit room over says text (nat_lt limit (length text)) e refl
