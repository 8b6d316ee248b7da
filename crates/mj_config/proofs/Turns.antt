-- A turn of the loops over the processors.
use Rattle.std.proofs.Common.{◌≡◌, ◌∙◌, ℕ, ◌+◌, ◌<◌, sym, ap, get_or, List, [], ◌∷◌, ◌++◌, length, drop, map, Ok}
use Rattle.std.proofs.lemmas.List.{map-append}
use Rattle.toml.specs.Data.{Members}
use Rattle.mj_plan.specs.declared.plan.Processor.{Processor}
use Rattle.mj_terms.specs.Answers.{◌>>=◌}
use Rattle.mj_config_walk.specs.Walk.{Header, deliveries, header_of, headers_from, located, names_of, processors_from, steps_from}
use Rattle.mj_config_walk.proofs.Ahead.{ahead}
use Rattle.mj_config_walk.proofs.InTurn.{walk_next}

-- headers: the first one is read
pub header_read : (earlier : List (List ℕ)) (place : ℕ) (header : Header) (table : Members) (rest : List Members) → located place 0 (header_of earlier table) ≡ Ok header
    → headers_from place earlier (table ∷ rest) ≡ (headers_from (place + 1) (earlier ++ header.name ∷ []) rest >>= λ headers. Ok (header ∷ headers))
header_read earlier place header table rest read = rw read

-- the header at a place of the list is read
pub header_next : {R : Type 0} (seen : R → Members) (earlier now : List (List ℕ)) (list : List R) (k place : ℕ) (r : R) (headers more : List Header) (header : Header)
    → k < length list → r ≡ get_or list k r → place ≡ k + 1 → located place 0 (header_of earlier (seen r)) ≡ Ok header
    → now ≡ earlier ++ header.name ∷ [] → more ≡ headers ++ header ∷ []
    → ahead headers (headers_from (k + 1) earlier (map seen (drop k list))) ≡ ahead more (headers_from (k + 1 + 1) now (map seen (drop (k + 1) list)))
header_next seen earlier now list k place r headers more header within at numbered read is grown =
    let rest = map seen (drop (k + 1) list) in
    let here : located (k + 1) 0 (header_of earlier (seen r)) ≡ Ok header = ap (λ n. located n 0 (header_of earlier (seen r))) (sym numbered) ∙ read in
    walk_next (headers_from (k + 1) earlier) (headers_from (k + 1 + 1) now rest) seen list k r headers more header within at
    (header_read earlier (k + 1) header (seen r) rest here
    ∙ ap (λ names. headers_from (k + 1 + 1) names rest >>= λ others. Ok (header ∷ others)) (sym is))
    grown

-- one header more, and the names then
pub names_more : (names now : List (List ℕ)) (headers more : List Header) (header : Header) → names ≡ names_of headers → now ≡ names ++ header.name ∷ [] → more ≡ headers ++ header ∷ []
    → now ≡ names_of more
names_more names now headers more header are is grown =
    is
    ∙ ap (λ before. before ++ header.name ∷ []) are
    ∙ sym (map-append (λ h. h.name) headers (header ∷ []))
    ∙ ap names_of (sym grown)

-- processors: the steps of the first one are read
pub processor_read : (names taken : List (List ℕ)) (place : ℕ) (processor : Processor) (header : Header) (rest : List Header) → steps_from names taken place 1 header.steps ≡ Ok processor.steps → processor.name ≡ header.name
    → processors_from names taken place (header ∷ rest) ≡ (processors_from names (taken ++ deliveries processor.steps) (place + 1) rest >>= λ processors. Ok (processor ∷ processors))
processor_read names taken place processor header rest read named =
    rw read (ap (λ name. processors_from names (taken ++ deliveries processor.steps) (place + 1) rest >>= λ processors. Ok ((record { name = name; steps = processor.steps }) ∷ processors)) (sym named))

-- the processor at a place of the list is read
pub processor_next : {R : Type 0} (seen : R → Header) (names taken now : List (List ℕ)) (list : List R) (k place : ℕ) (r : R) (processors more : List Processor) (processor : Processor)
    → k < length list → r ≡ get_or list k r → place ≡ k + 1 → steps_from names taken place 1 (seen r).steps ≡ Ok processor.steps → processor.name ≡ (seen r).name
    → now ≡ taken ++ deliveries processor.steps → more ≡ processors ++ processor ∷ []
    → ahead processors (processors_from names taken (k + 1) (map seen (drop k list))) ≡ ahead more (processors_from names now (k + 1 + 1) (map seen (drop (k + 1) list)))
processor_next seen names taken now list k place r processors more processor within at numbered read named is grown =
    let rest = map seen (drop (k + 1) list) in
    let here : steps_from names taken (k + 1) 1 (seen r).steps ≡ Ok processor.steps = ap (λ n. steps_from names taken n 1 (seen r).steps) (sym numbered) ∙ read in
    walk_next (processors_from names taken (k + 1)) (processors_from names now (k + 1 + 1) rest) seen list k r processors more processor within at
    (processor_read names taken (k + 1) processor (seen r) rest here named
    ∙ ap (λ t. processors_from names t (k + 1 + 1) rest >>= λ others. Ok (processor ∷ others)) (sym is))
    grown
