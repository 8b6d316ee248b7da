-- Places that are read one after the other.
use Rattle.std.proofs.Common.{◌≡◌, ◌∙◌, ℕ, ◌+◌, ◌<◌, refl, sym, ap, get_or, List, [], ◌∷◌, ◌++◌, length, drop, map, Result, Ok, Err}
use Rattle.std.proofs.lemmas.List.{append_assoc, at_drop_more}
use Rattle.std.proofs.lemmas.List.Elements.{filter_map-append}
use Rattle.mj_plan.specs.Sound.{outgoing_of}
use Rattle.toml.specs.Data.{Members}
use Rattle.mj_plan.specs.declared.plan.Step.{Step}
use Rattle.mj_config_walk.specs.declared.fault.PlanFault.{PlanFault}
use Rattle.mj_config_walk.proofs.Ahead.{ahead}
use Rattle.mj_terms.specs.Answers.{◌>>=◌}
use Rattle.mj_config_walk.specs.Walk.{deliveries, located, step_of, steps_from}

-- with one more so far
pub ahead_then : {X : Type 0} (so_far : List X) (x : X) (rest : Result (List X) PlanFault)
    → ahead so_far (rest >>= λ xs. Ok (x ∷ xs)) ≡ ahead (so_far ++ x ∷ []) rest
ahead_then so_far x (Ok xs) = rw (append_assoc so_far (x ∷ []) xs)
ahead_then so_far x (Err fault) = refl

-- A walk over a list, whose step says what is read of its front, and what the rest is then.
pub walk_next : {R A X : Type 0} (walk : List A → Result (List X) PlanFault) (rest : Result (List X) PlanFault) (seen : R → A) (list : List R) (k : ℕ) (r : R) (so_far more : List X) (x : X)
    → k < length list → r ≡ get_or list k r → (walk (seen r ∷ map seen (drop (k + 1) list)) ≡ (rest >>= λ xs. Ok (x ∷ xs))) → more ≡ so_far ++ x ∷ []
    → ahead so_far (walk (map seen (drop k list))) ≡ ahead more rest
walk_next walk rest seen list k r so_far more x within at read grown =
    at_drop_more (λ left. ahead so_far (walk (map seen left))) list k r within
    ∙ ap (λ a. ahead so_far (walk (seen a ∷ map seen (drop (k + 1) list)))) (sym at)
    ∙ ap (ahead so_far) read
    ∙ ahead_then so_far x rest
    ∙ ap (λ xs. ahead xs rest) (sym grown)

-- steps: the first one is read
pub step_read : (names taken : List (List ℕ)) (processor number : ℕ) (step : Step) (table : Members) (rest : List Members) → located processor number (step_of names taken table) ≡ Ok step
    → steps_from names taken processor number (table ∷ rest) ≡ (steps_from names (taken ++ deliveries (step ∷ [])) processor (number + 1) rest >>= λ steps. Ok (step ∷ steps))
step_read names taken processor number step table rest read = rw read

-- one step more, and the names of remote deliveries that are taken then
pub deliveries_more : (before taken : List (List ℕ)) (steps more : List Step) (step : Step) → taken ≡ before ++ deliveries steps → more ≡ steps ++ step ∷ []
    → taken ++ deliveries (step ∷ []) ≡ before ++ deliveries more
deliveries_more before taken steps more step is grown =
    ap (λ t. t ++ deliveries (step ∷ [])) is
    ∙ append_assoc before (deliveries steps) (deliveries (step ∷ []))
    ∙ ap (λ d. before ++ d) (sym (filter_map-append (λ s. outgoing_of s.mailet) steps (step ∷ [])))
    ∙ ap (λ s. before ++ deliveries s) (sym grown)

-- the step at a place of the list is read
pub step_next : {R : Type 0} (seen : R → Members) (names taken now : List (List ℕ)) (processor : ℕ) (list : List R) (k number : ℕ) (r : R) (steps more : List Step) (step : Step)
    → k < length list → r ≡ get_or list k r → number ≡ k + 1 → located processor number (step_of names taken (seen r)) ≡ Ok step
    → now ≡ taken ++ deliveries (step ∷ []) → more ≡ steps ++ step ∷ []
    → ahead steps (steps_from names taken processor (k + 1) (map seen (drop k list))) ≡ ahead more (steps_from names now processor (k + 1 + 1) (map seen (drop (k + 1) list)))
step_next seen names taken now processor list k number r steps more step within at numbered read is grown =
    let rest = map seen (drop (k + 1) list) in
    let here : located processor (k + 1) (step_of names taken (seen r)) ≡ Ok step = ap (λ n. located processor n (step_of names taken (seen r))) (sym numbered) ∙ read in
    walk_next (steps_from names taken processor (k + 1)) (steps_from names now processor (k + 1 + 1) rest) seen list k r steps more step within at
    (step_read names taken processor (k + 1) step (seen r) rest here
    ∙ ap (λ t. steps_from names t processor (k + 1 + 1) rest >>= λ others. Ok (step ∷ others)) (sym is))
    grown
