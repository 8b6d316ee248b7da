-- An index that grows by one item after the other.
use Rattle.std.proofs.Common.{◌≡◌, ℕ, ◌+◌, ◌<◌, Bool, true, false, cond, ◌||◌, List, [], ◌∷◌, length, get_or, take, refl, sym, ap, ◌∙◌}
use Rattle.std.proofs.lemmas.List.{take_more}
use Rattle.std.proofs.lemmas.List.Folds.{list_any-append}
use Rattle.std.specs.Cmp.{IsEquivalence}
use Rattle.std.specs.List.{list_any}
use Rattle.mj_plan.specs.Listed.{IsIndexOf}

-- what is added is found first or last
found_last : (new old : Bool) → cond new true old ≡ (old || (new || false))
found_last true true = refl
found_last true false = refl
found_last false true = refl
found_last false false = refl

-- an index of the items so far, and the next one added to it
pub indexed_more : {T : Type 0} (eq : T → T → Bool) → IsEquivalence eq → (items keys more : List T) (k : ℕ) (item added : T) → k < length items → added ≡ get_or items k item
    → IsIndexOf eq (take k items) keys → ((wanted : T) → list_any (eq wanted) more ≡ cond (eq added wanted) true (list_any (eq wanted) keys)) → IsIndexOf eq (take (k + 1) items) more
indexed_more eq laws items keys more k item added within at so_far grown wanted =
    let next = get_or items k item in
    let turned : eq added wanted ≡ eq wanted next = ap (λ x. eq x wanted) at ∙ laws.symm next wanted in
    grown wanted
    ∙ (λ i. cond (turned i) true (so_far wanted i))
    ∙ found_last (eq wanted next) (list_any (eq wanted) (take k items))
    ∙ sym (list_any-append (eq wanted) (take k items) (next ∷ []))
    ∙ ap (list_any (eq wanted)) (sym (take_more items k item within))
