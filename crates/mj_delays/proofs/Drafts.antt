-- What adding an entry to a draft leaves to be read.
use Rattle.std.proofs.Common.{◌≡◌, ℕ, ◌+◌, ◌-◌, ◌^◌, ◌<◌, ◌≤◌, min, max, Bool, true, false, cond, leb, ltb, List, [], ◌∷◌, ◌++◌, replicate, Some, None, Result, Ok, Err, refl, sym, ap, ◌∙◌, arith, append_assoc, add_assoc}
use Rattle.std.specs.List.{slice_split}
use Rattle.std.proofs.lemmas.Grind.{common_steps}
use Rattle.std.proofs.lemmas.Bool.Decides.{nat_tests}
use Rattle.mj_delays.specs.declared.delays.Entry.{Entry}
use Rattle.mj_delays.specs.declared.schedules.ScheduleFault.{ScheduleFault}
use Rattle.mj_delays.specs.declared.schedules.ScheduleFault.TheVariants.{TooMany}
use Rattle.mj_delays.specs.Delays.{entry_of}
use Rattle.mj_terms.specs.Answers.{◌>>=◌}
use Rattle.mj_delays.specs.Schedule.{attempts, checked, default_entry, entries_from, extended, is_comma, list_of, schedule_of, written_out}
use Rattle.mj_delays.specs.Draft.{completed}

-- the schedule of so many attempts with these delays
kept : ℕ → ℕ → List ℕ → Result (List ℕ) ScheduleFault
kept n count delays = cond (ltb 100 (max count n)) (Err TooMany) (Ok (extended n delays))

kept_by : (n count : ℕ) (a b : List ℕ) (t : Bool) → ltb 100 count ≡ t → (count ≤ 100 → a ≡ b) → kept n count a ≡ kept n count b
unfolding kept
kept_by n count a b true e same = grind (arith, nat_tests)
kept_by n count a b false e same =
    let few : count ≤ 100 = grind (arith, nat_tests) in
    ap (λ delays. cond (ltb 100 (max count n)) (Err TooMany) (Ok (extended n delays))) (same few)

-- above 100 the delays don't count
kept_many : (n count : ℕ) (a b : List ℕ) → (count ≤ 100 → a ≡ b) → kept n count a ≡ kept n count b
kept_many n count a b same = kept_by n count a b (ltb 100 count) refl same

-- an entry that is added no longer counts among those that are left
completed_step : (n count : ℕ) (delays more : List ℕ) (entry : Entry) (entries : List Entry) → (count + entry.attempts ≤ 100 → more ≡ delays ++ replicate entry.attempts entry.delay) → completed n (count + entry.attempts) more entries ≡ completed n count delays (entry ∷ entries)
unfolding completed kept
completed_step n count delays more entry entries grown =
    ap (λ total. kept n total (more ++ written_out entries)) (add_assoc count entry.attempts (attempts entries))
    ∙ kept_many n (count + (entry.attempts + attempts entries)) (more ++ written_out entries) (delays ++ written_out (entry ∷ entries)) (λ few. ap (λ l. l ++ written_out entries) (grown (omega arith)) ∙ append_assoc delays (replicate entry.attempts entry.delay) (written_out entries))

completed_rest : (n count : ℕ) (delays more : List ℕ) (entry : Entry) (read : Result (List Entry) ScheduleFault) → (count + entry.attempts ≤ 100 → more ≡ delays ++ replicate entry.attempts entry.delay) → (read >>= completed n (count + entry.attempts) more) ≡ ((read >>= λ entries. Ok (entry ∷ entries)) >>= completed n count delays)
completed_rest n count delays more entry (Ok entries) grown = completed_step n count delays more entry entries grown
completed_rest n count delays more entry (Err fault) grown = refl

-- above 100 neither count matters
completed_over : (n a b : ℕ) (delays more : List ℕ) (entries : List Entry) → 100 < a → 100 < b → completed n a delays entries ≡ completed n b more entries
unfolding completed
completed_over n a b delays more entries high higher = grind (arith, nat_tests)

over_rest : (n a b : ℕ) (delays more : List ℕ) (read : Result (List Entry) ScheduleFault) → 100 < a → 100 < b → (read >>= completed n a delays) ≡ (read >>= completed n b more)
over_rest n a b delays more (Ok entries) high higher = completed_over n a b delays more entries high higher
over_rest n a b delays more (Err fault) high higher = refl

-- so a count may stop at any limit that is greater
capped_by : (n total sum limit : ℕ) (delays : List ℕ) (read : Result (List Entry) ScheduleFault) (t : Bool) → leb sum limit ≡ t → total ≡ min sum limit → 100 < limit
    → (read >>= completed n total delays) ≡ (read >>= completed n sum delays)
capped_by n total sum limit delays read true e is high =
    let within : sum ≤ limit = grind (arith, nat_tests) in
    ap (λ t. read >>= completed n t delays) (omega (arith, is, within))
capped_by n total sum limit delays read false e is high =
    let over : limit < sum = grind (arith, nat_tests) in
    over_rest n total sum delays delays read (omega (arith, is, over, high)) (omega (arith, over, high))

capped : (n total sum limit : ℕ) (delays : List ℕ) (read : Result (List Entry) ScheduleFault) → total ≡ min sum limit → 100 < limit
    → (read >>= completed n total delays) ≡ (read >>= completed n sum delays)
capped n total sum limit delays read is high = capped_by n total sum limit delays read (leb sum limit) refl is high

-- the next entry, read
pub completed_ok : (n count total place : ℕ) (delays more part : List ℕ) (texts parts : List (List ℕ)) (entry : Entry) → texts ≡ part ∷ parts → checked place (entry_of part) ≡ Ok entry → total ≡ min (count + entry.attempts) (2 ^ 64 - 1) → (total ≤ 100 → more ≡ delays ++ replicate entry.attempts entry.delay) → (entries_from (place + 1) parts >>= completed n total more) ≡ (entries_from place texts >>= completed n count delays)
completed_ok n count total place delays more part texts parts entry split read sum grown =
    capped n total (count + entry.attempts) (2 ^ 64 - 1) more (entries_from (place + 1) parts) sum (omega arith)
    ∙ completed_rest n count delays more entry (entries_from (place + 1) parts) (λ few. grown (omega arith))
    ∙ sym (ap (λ ts. entries_from place ts >>= completed n count delays) split ∙ ap (λ r. (r >>= λ e. entries_from (place + 1) parts >>= λ es. Ok (e ∷ es)) >>= completed n count delays) read)

-- the next entry, refused
pub completed_err : (n count place : ℕ) (delays part : List ℕ) (texts parts : List (List ℕ)) (fault : ScheduleFault) → texts ≡ part ∷ parts → checked place (entry_of part) ≡ Err fault → (entries_from place texts >>= completed n count delays) ≡ Err fault
completed_err n count place delays part texts parts fault split read =
    ap (λ ts. entries_from place ts >>= completed n count delays) split ∙ ap (λ r. (r >>= λ e. entries_from (place + 1) parts >>= λ es. Ok (e ∷ es)) >>= completed n count delays) read

start : (n : ℕ) (read : Result (List Entry) ScheduleFault) → (read >>= completed n 0 []) ≡ (read >>= list_of n)
unfolding completed
start n (Ok entries) = grind (arith, common_steps)
start n (Err fault) = refl

-- before the first entry the draft stands for the whole text
pub completed_start : (n : ℕ) (text : List ℕ) → (entries_from 1 (slice_split is_comma text) >>= completed n 0 []) ≡ schedule_of (Some text) n
completed_start n text = start n (entries_from 1 (slice_split is_comma text))

-- the draft with the one entry that there is without a text
pub completed_default : (n count total : ℕ) (delays more : List ℕ) → count ≡ 0 → delays ≡ [] → total ≡ min (count + 1) (2 ^ 64 - 1) → (total ≤ 100 → more ≡ delays ++ replicate 1 21_600_000) → completed n total more [] ≡ schedule_of None n
completed_default n count total delays more none empty sum grown =
    ap (λ t. completed n t more []) (omega (arith, sum, none))
    ∙ completed_step n 0 [] more default_entry [] (λ few. grown (omega arith) ∙ ap (λ ds. ds ++ replicate 1 21_600_000) empty)
    ∙ start n (Ok (default_entry ∷ []))
