-- A blank at the end of a text.
use Rattle.std.proofs.Common.{◌≡◌, ℕ, true, false, List, [], ◌∷◌, ◌++◌, arith}
use Rattle.std.specs.List.{list_all}
use Rattle.std.proofs.lemmas.Grind.{common_steps}
use Rattle.mj_terms.specs.Text.{is_blank, trim_back}

list_all-blank : (xs : List ℕ) (b : ℕ) → is_blank b ≡ true → list_all is_blank (xs ++ b ∷ []) ≡ list_all is_blank xs
list_all-blank [] b h = grind (arith, common_steps)
list_all-blank (x ∷ xs) b h = grind (arith, list_all-blank xs b h)

list_all-other : (xs : List ℕ) (b : ℕ) → is_blank b ≡ false → list_all is_blank (xs ++ b ∷ []) ≡ false
list_all-other [] b h = grind (arith, common_steps)
list_all-other (x ∷ xs) b h = grind (arith, common_steps, list_all-other xs b h)

-- a blank at the end falls away
pub blank_last : (xs : List ℕ) (b : ℕ) → is_blank b ≡ true → trim_back (xs ++ b ∷ []) ≡ trim_back xs
blank_last [] b h = grind (arith, common_steps)
blank_last (x ∷ xs) b h = grind (arith, list_all-blank xs b h, blank_last xs b h)

-- any other byte at the end stays, with all before it
pub other_last : (xs : List ℕ) (b : ℕ) → is_blank b ≡ false → trim_back (xs ++ b ∷ []) ≡ xs ++ b ∷ []
other_last [] b h = grind (arith, common_steps)
other_last (x ∷ xs) b h = grind (arith, common_steps, list_all-other xs b h, other_last xs b h)
