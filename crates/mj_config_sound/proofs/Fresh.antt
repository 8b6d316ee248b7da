-- Names each of which is new behind those before it.
use Rattle.std.proofs.Common.{◌≡◌, ℕ, Bool, true, false, not, List, [], ◌∷◌, ◌++◌, refl, sym, ap, ◌∙◌, ◌&&◌, arith, append_assoc}
use Rattle.std.proofs.lemmas.Bool.{and_parts, true≢false}
use Rattle.std.proofs.lemmas.Slice.Eq.{bytes_eq-Decides}
use Rattle.std.proofs.lemmas.List.{append-nil}
use Rattle.std.proofs.lemmas.List.Folds.{list_any-append}
use Rattle.std.specs.List.{list_any}
use Rattle.std.specs.Str.{bytes_eq}
use Rattle.mj_plan.specs.Sound.{are_different}

-- each name is new behind those taken and those before it
abbrev pub are_new : List (List ℕ) → List (List ℕ) → Bool
are_new taken [] = true
are_new taken (name ∷ names) = not (list_any (bytes_eq name) taken) && are_new (taken ++ name ∷ []) names

same_name : (x y : List ℕ) → bytes_eq x y ≡ true → x ≡ y
same_name x y e = (bytes_eq-Decides x y).0 e

held : (x y : List ℕ) (taken : List (List ℕ)) → list_any (bytes_eq x) taken ≡ true → list_any (bytes_eq x) (taken ++ y ∷ []) ≡ true
held x y taken h = list_any-append (bytes_eq x) taken (y ∷ []) ∙ rw h

apart_by : (x y : List ℕ) (taken : List (List ℕ)) (b : Bool) → bytes_eq x y ≡ b → list_any (bytes_eq x) taken ≡ true → not (list_any (bytes_eq y) taken) ≡ true → bytes_eq x y ≡ false
apart_by x y taken true e h new =
    let is : list_any (bytes_eq y) taken ≡ true = ap (λ z. list_any (bytes_eq z) taken) (sym (same_name x y e)) ∙ h in
    absurd (true≢false (sym new ∙ ap not is))
apart_by x y taken false e h new = e

-- a name that is taken is none of those that are new
pub apart : (x : List ℕ) (taken names : List (List ℕ)) → list_any (bytes_eq x) taken ≡ true → are_new taken names ≡ true → list_any (bytes_eq x) names ≡ false
apart x taken [] h new = refl
apart x taken (y ∷ names) h new =
    let parts = and_parts (not (list_any (bytes_eq y) taken)) (are_new (taken ++ y ∷ []) names) new in
    rw (apart_by x y taken (bytes_eq x y) refl h parts.0, apart x (taken ++ y ∷ []) names (held x y taken h) parts.1)

itself : (x : List ℕ) → bytes_eq x x ≡ true
itself x = (bytes_eq-Decides x x).1 refl

last_taken : (x : List ℕ) (taken : List (List ℕ)) → list_any (bytes_eq x) (taken ++ x ∷ []) ≡ true
last_taken x [] = rw (itself x)
last_taken x (y ∷ taken) = grind (arith, last_taken x taken)

-- no two of them are equal
pub different : (taken names : List (List ℕ)) → are_new taken names ≡ true → are_different names ≡ true
different taken [] new = refl
different taken (x ∷ names) new =
    let parts = and_parts (not (list_any (bytes_eq x) taken)) (are_new (taken ++ x ∷ []) names) new in
    rw (apart x (taken ++ x ∷ []) names (last_taken x taken) parts.1, different (taken ++ x ∷ []) names parts.1)

-- one list of such names behind another
pub joined : (taken xs ys : List (List ℕ)) → are_new taken xs ≡ true → are_new (taken ++ xs) ys ≡ true → are_new taken (xs ++ ys) ≡ true
joined taken [] ys h k = ap (λ all. are_new all ys) (sym (append-nil taken)) ∙ k
joined taken (x ∷ xs) ys h k =
    let parts = and_parts (not (list_any (bytes_eq x) taken)) (are_new (taken ++ x ∷ []) xs) h in
    let rest : are_new ((taken ++ x ∷ []) ++ xs) ys ≡ true = ap (λ all. are_new all ys) (append_assoc taken (x ∷ []) xs) ∙ k in
    rw (parts.0, joined (taken ++ x ∷ []) xs ys parts.1 rest)
