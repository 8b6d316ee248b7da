-- A list that is read item by item: what was read so far, ahead of what the rest gives.
use Rattle.std.proofs.Common.{◌≡◌, ◌∙◌, ℕ, ◌+◌, ◌<◌, refl, sym, ap, get_or, List, [], ◌∷◌, ◌++◌, length, drop, map, Result, Ok, Err}
use Rattle.std.proofs.lemmas.List.{append_assoc, at_drop_more}
use Rattle.mj_config_walk.specs.declared.fault.PlanKind.{PlanKind}
use Rattle.mj_terms.specs.Answers.{◌>>=◌}
use Rattle.mj_config_walk.specs.Values.{each}

abbrev pub ahead : {X E : Type 0} → List X → Result (List X) E → Result (List X) E
ahead so_far (Ok xs) = Ok (so_far ++ xs)
ahead so_far (Err fault) = Err fault

-- with one more so far
pub ahead_next : {X : Type 0} (so_far : List X) (x : X) (rest : Result (List X) PlanKind)
    → ahead so_far (rest >>= λ xs. Ok (x ∷ xs)) ≡ ahead (so_far ++ x ∷ []) rest
ahead_next so_far x (Ok xs) = rw (append_assoc so_far (x ∷ []) xs)
ahead_next so_far x (Err kind) = refl

-- the same where the next one has been read, and where it was refused
pub next_read : {A X : Type 0} (form : A → Result X PlanKind) (so_far : List X) (x : X) (a : A) (rest : List A) → form a ≡ Ok x
    → ahead (so_far ++ x ∷ []) (each form rest) ≡ ahead so_far (each form (a ∷ rest))
next_read form so_far x a rest read = rw read (sym (ahead_next so_far x (each form rest)))

pub next_refused : {A X : Type 0} (form : A → Result X PlanKind) (so_far : List X) (kind : PlanKind) (a : A) (rest : List A) → form a ≡ Err kind
    → ahead so_far (each form (a ∷ rest)) ≡ Err kind
next_refused form so_far kind a rest read = rw read

-- before the first one
none_ahead : {X : Type 0} (read : Result (List X) PlanKind) → ahead [] read ≡ read
none_ahead (Ok xs) = refl
none_ahead (Err kind) = refl

pub nothing_read : {A X : Type 0} (form : A → Result X PlanKind) (rest : List A) → ahead [] (each form rest) ≡ each form rest
nothing_read form rest = none_ahead (each form rest)

-- a turn of a loop that reads what stands in a text
pub turn_read : {A X : Type 0} (form : A → Result X PlanKind) (so_far now : List X) (x : X) (a : A) (rest others : List A)
    → rest ≡ a ∷ others → form a ≡ Ok x → now ≡ so_far ++ x ∷ [] → ahead now (each form others) ≡ ahead so_far (each form rest)
turn_read {A} {X} form so_far now x a rest others split read pushed =
    ap (λ (l : List X). ahead l (each form others)) pushed
    ∙ next_read form so_far x a others read
    ∙ ap (λ (l : List A). ahead so_far (each form l)) (sym split)

-- the same at a place of a list of references, each of which shows what is read
pub each_next : {R A X : Type 0} (seen : R → A) (form : A → Result X PlanKind) (list : List R) (k : ℕ) (r : R) (so_far more : List X) (x : X)
    → k < length list → r ≡ get_or list k r → form (seen r) ≡ Ok x → more ≡ so_far ++ x ∷ []
    → ahead so_far (each form (map seen (drop k list))) ≡ ahead more (each form (map seen (drop (k + 1) list)))
each_next seen form list k r so_far more x within at read grown =
    at_drop_more (λ left. ahead so_far (each form (map seen left))) list k r within
    ∙ sym (next_read form so_far x (seen (get_or list k r)) (map seen (drop (k + 1) list)) (ap (λ a. form (seen a)) (sym at) ∙ read))
    ∙ ap (λ xs. ahead xs (each form (map seen (drop (k + 1) list)))) (sym grown)
