-- The words of a text, one after the other.
use Rattle.std.proofs.Common.{◌≡◌, ℕ, suc, ◌==◌, true, false, List, [], ◌∷◌, length, filter, get_or, Option, Some, None, refl, ap, ◌∙◌, le-leb, arith}
use Rattle.mj_config_walk.proofs.Cuts.{parts_are, parts_in}
use Rattle.mj_terms.specs.Text.{before, behind_byte}
use Rattle.mj_config_walk.specs.Arguments.{words}
use Rattle.mj_config_walk.specs.Rest.{words_in}
use Rattle.mj_config_walk.specs.Values.{is_filled}

others : (rest : Option (List ℕ)) → filter is_filled (parts_in 32 rest) ≡ words_in rest
others None = refl
others (Some s) = refl

filled : (b : ℕ) (s : List ℕ) → is_filled (b ∷ s) ≡ true
filled b s = le-leb 1 (suc (length s)) (omega arith)

front : (b : ℕ) (s : List ℕ) (rest : List (List ℕ)) → (b == 32) ≡ false → filter is_filled (before 32 (b ∷ s) ∷ rest) ≡ before 32 (b ∷ s) ∷ filter is_filled rest
front b s rest e = rw (e, filled b (before 32 s))

-- the first word, and the others
pub first_word : (s : List ℕ) → (s ≡ [] → ⊥) → (get_or s 0 0 == 32) ≡ false → words s ≡ before 32 s ∷ words_in (behind_byte 32 s)
first_word [] some e = absurd (some refl)
first_word (b ∷ s) some e =
    ap (λ parts. filter is_filled parts) (parts_are 32 (b ∷ s))
    ∙ front b s (parts_in 32 (behind_byte 32 (b ∷ s))) e
    ∙ ap (λ rest. before 32 (b ∷ s) ∷ rest) (others (behind_byte 32 (b ∷ s)))
