-- Lists with no two addresses the same.
use Rattle.std.proofs.Common.{◌≡◌, ℕ, zero, suc, ◌<◌, false, List, [], ◌∷◌, ◌++◌, length, get_or, take, if◌then◌else◌, refl, sym, ap, subst, ◌∙◌, arith, append_assoc, length-append}
use Rattle.std.proofs.Math.Seq.{take-append_seam, get_or-append_seam}
use Rattle.std.proofs.lemmas.Cmp.{and_equiv, on_equiv, nat_list_eq_equiv}
use Rattle.std.proofs.lemmas.Map.Keys.{apart_from_distinct, IsDistinct-tail}
use Rattle.std.specs.Cmp.{IsEquivalence}
use Rattle.std.specs.Str.{str_to_ascii_lowercase}
use Rattle.indexmap.specs.IndexSet.{insert_key}
use Rattle.mj_address.specs.Same.{same_address, has_same, AreDifferent}

-- to be the same is an equivalence
pub same_laws : IsEquivalence same_address
same_laws = and_equiv (on_equiv (λ a. str_to_ascii_lowercase a.0) nat_list_eq_equiv) (on_equiv (λ a. str_to_ascii_lowercase a.1) nat_list_eq_equiv)

-- none before a place is the same as the one there
pub fresh : (list : List (List ℕ × List ℕ)) (k : ℕ) (d : List ℕ × List ℕ) → AreDifferent list → k < length list → has_same (take k list) (get_or list k d) ≡ false
fresh [] k d different within = absurd (omega arith)
fresh (a ∷ list) zero d different within = refl
fresh (a ∷ list) (suc k) d different within =
    let apart = apart_from_distinct same_address (a ∷ list) 0 (suc k) d different (omega arith) within in
    rw (same_laws.symm (get_or list k d) a, apart) (fresh list k d (IsDistinct-tail same_address a list different) (omega arith))

fresh_between : (before : List (List ℕ × List ℕ)) (address : List ℕ × List ℕ) (rest : List (List ℕ × List ℕ)) → AreDifferent (before ++ address ∷ rest) → has_same before address ≡ false
fresh_between before address rest different =
    let at = fresh (before ++ address ∷ rest) (length before) address different (omega (arith, length-append before (address ∷ rest))) in
    sym (λ i. has_same (take-append_seam before (address ∷ rest) i) (get_or-append_seam before address rest address i)) ∙ at

-- one more address of the list is put into a set
pub filled_more : (list before more : List (List ℕ × List ℕ)) (address : List ℕ × List ℕ) (rest : List (List ℕ × List ℕ)) → AreDifferent list
    → before ++ address ∷ rest ≡ list → more ≡ insert_key same_address before address → more ++ rest ≡ list
filled_more list before more address rest different all put =
    let new = fresh_between before address rest (subst AreDifferent (sym all) different) in
    let grown : more ≡ before ++ address ∷ [] = put ∙ ap (λ b. if b then before else before ++ address ∷ []) new in
    ap (λ m. m ++ rest) grown ∙ append_assoc before (address ∷ []) rest ∙ all
