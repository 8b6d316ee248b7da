-- A byte that is looked for at some places one by one, and then behind them.
use Rattle.std.proofs.Common.{◌≡◌, ℕ, ◌+◌, ◌-◌, ◌≤◌, Bool, List, length, drop, get_or, sym, ap, subst, ◌∙◌, ⊎_elim, arith, length-drop}
use Rattle.std.proofs.lemmas.Bool.{cases_eq, cases_lt}
use Rattle.std.proofs.lemmas.List.{get_or-drop}
use Rattle.bstr.specs.Find.{NoneBefore, Nowhere, Passes}

-- it stands at none of some places, nor at the next one
pub one_more : (P : ℕ → Type 0) (k : ℕ) → Nowhere P 0 k → (P k → ⊥) → Nowhere P 0 (k + 1)
one_more P k before here i low high p = ⊎_elim (λ same. here (subst P same p)) (λ other. before i low (omega arith) p) (cases_eq i k)

module _ (test : ℕ → Bool) (text : List ℕ) (near : ℕ) (front : Nowhere (Passes test text) 0 near) where
  -- a place behind them, as a place of what stands there
  within : (k : ℕ) → near ≤ k → Passes test text k → Passes test (drop near text) (k - near)
  within k from p =
      let at : near + (k - near) ≡ k = omega arith in
      ap test (get_or-drop near text (k - near) 0 ∙ ap (λ (i : ℕ). get_or text i 0) at) ∙ p

  up_to : (k : ℕ) → k ≤ length (drop near text) → Nowhere (Passes test (drop near text)) 0 k → Nowhere (Passes test text) 0 (near + k)
  up_to k size none i low high p =
      ⊎_elim (λ before. front i low before p) (λ from. none (i - near) (omega arith) (omega arith) (within i from p)) (cases_lt i near)

  -- it stands nowhere
  pub nowhere : near ≤ length text → Nowhere (Passes test (drop near text)) 0 (length (drop near text)) → Nowhere (Passes test text) 0 (length text)
  nowhere room none i low high =
      up_to (length (drop near text)) (omega arith) none i low (omega (arith, length-drop near text))

  -- it stands first at this place behind them
  pub behind : (k : ℕ) → NoneBefore (Passes test (drop near text)) 0 (length (drop near text)) k × Passes test (drop near text) k
      → NoneBefore (Passes test text) 0 (length text) (near + k) × Passes test text (near + k)
  behind k found = (
    record {
      low = omega arith;
      high = omega (arith, length-drop near text, found.0.high);
      before = up_to k (omega (arith, found.0.high)) found.0.before;
    },
    ap test (sym (get_or-drop near text k 0)) ∙ found.1,
  )
