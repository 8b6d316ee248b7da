-- The schedules that are read have at most 100 delays, each of at most seven days.
use Rattle.std.proofs.Common.{◌≡◌, ℕ, ◌+◌, ◌-◌, Bool, true, false, List, [], ◌∷◌, ◌++◌, length, replicate, zero, suc, Option, Some, None, Result, Ok, Err, refl, arith}
use Rattle.std.specs.Prelude.{if◌then◌else◌, max, nat_le, nat_lt, codes, slice_index}
use Rattle.std.proofs.lemmas.Bool.Decides.{nat_tests}
use Rattle.std.proofs.lemmas.List.{length-append, length-replicate}
use Rattle.std.proofs.lemmas.List.Elements.{All-replicate}
use Rattle.std.proofs.lemmas.List.Folds.{list_all-append}
use Rattle.std.proofs.lemmas.List.Sums.{list_all-from_AllPass}
use Rattle.std.specs.List.{list_all, slice_split}
use Rattle.toml.specs.Data.{Members, get_member}
use Rattle.mj_delays.specs.declared.schedules.ScheduleFault.{ScheduleFault}
use Rattle.mj_delays.specs.declared.schedules.ScheduleFault.TheVariants.{BadDelay, TooLong, TooMany}
use Rattle.mj_delays.specs.Delays.{entry_of}
use Rattle.mj_delays.specs.Limits.{is_short}
use Rattle.mj_delays.specs.Schedule.{attempts, checked, default_entry, entries_from, extended, is_comma, list_of, schedule_of, written_out}
use Rattle.mj_plan.specs.Sound.{is_schedule}
use Rattle.mj_config_walk.specs.declared.fault.PlanKind.TheVariants.{BadArgument}
use Rattle.mj_config_walk.specs.Mailets.{in_schedule, schedule, schedule_param}
use Rattle.mj_config_walk.specs.Values.{maybe, number, optional, text}
use Rattle.mj_config_sound.proofs.Holds.{Holds, bind, err, ok, skip}
use Rattle.mj_config_sound.proofs.SoundAddresses.{not_long}

-- the type of an entry, which has no name outside of its crate
abbrev type_of : {X : Type 0} → X → Type 0
type_of {X} x = X

abbrev Entry : Type 0
Entry = type_of default_entry

-- ---- Delays

short_replicate : (n delay : ℕ) → is_short delay ≡ true → list_all is_short (replicate n delay) ≡ true
short_replicate n delay h = list_all-from_AllPass is_short (replicate n delay) (All-replicate (λ x. is_short x ≡ true) n delay h)

short_append : (xs ys : List ℕ) → list_all is_short xs ≡ true → list_all is_short ys ≡ true → list_all is_short (xs ++ ys) ≡ true
short_append xs ys h k = rw (list_all-append is_short xs ys, h, k)

short_at : (xs : List ℕ) (i : ℕ) → list_all is_short xs ≡ true → is_short (slice_index xs i) ≡ true
short_at [] i h = refl
short_at (x ∷ xs) zero h = grind arith
short_at (x ∷ xs) (suc i) h = short_at xs i (grind arith)

short_extended : (n : ℕ) (delays : List ℕ) → list_all is_short delays ≡ true → list_all is_short (extended n delays) ≡ true
short_extended n delays h =
    let last = slice_index delays (length delays - 1) in
    short_append delays (replicate (n - length delays) last) h (short_replicate (n - length delays) last (short_at delays (length delays - 1) h))

-- ---- Entries

checked_by : (place : ℕ) (entry : Entry) (long : Bool) → nat_lt 604_800_000 entry.delay ≡ long
    → Holds {E = ScheduleFault} (λ e. is_short e.delay ≡ true) (if long then Err (TooLong place) else Ok entry)
checked_by place entry true e = err (TooLong place)
checked_by place entry false e = ok entry (not_long 604_800_000 entry.delay e)

checked_short : (place : ℕ) (entry : Option Entry) → Holds (λ e. is_short e.delay ≡ true) (checked place entry)
checked_short place None = err (BadDelay place)
checked_short place (Some entry) = checked_by place entry (nat_lt 604_800_000 entry.delay) refl

entries_short : (place : ℕ) (texts : List (List ℕ)) → Holds (λ entries. list_all is_short (written_out entries) ≡ true) (entries_from place texts)
entries_short place [] = ok [] refl
entries_short place (text ∷ texts) =
    bind (checked_short place (entry_of text)) (λ entry h.
    bind (entries_short (place + 1) texts) (λ entries all.
    ok (entry ∷ entries) (short_append (replicate entry.attempts entry.delay) (written_out entries) (short_replicate entry.attempts entry.delay h) all)))

-- ---- Schedules

length_written_out : (entries : List Entry) → length (written_out entries) ≡ attempts entries
length_written_out [] = refl
length_written_out (entry ∷ entries) =
    let written = replicate entry.attempts entry.delay in
    omega (arith, length-append written (written_out entries), length-replicate entry.attempts entry.delay, length_written_out entries)

length_extended : (n : ℕ) (delays : List ℕ) → length (extended n delays) ≡ max (length delays) n
length_extended n delays =
    let last = slice_index delays (length delays - 1) in
    omega (arith, length-append delays (replicate (n - length delays) last), length-replicate (n - length delays) last)

few_extended : (n : ℕ) (entries : List Entry) → nat_lt 100 (max (attempts entries) n) ≡ false
    → nat_le (length (extended n (written_out entries))) 100 ≡ true
few_extended n entries e = grind (arith, nat_tests, length_written_out entries, length_extended n (written_out entries))

list_by : (n : ℕ) (entries : List Entry) (many : Bool) → nat_lt 100 (max (attempts entries) n) ≡ many → list_all is_short (written_out entries) ≡ true
    → Holds {E = ScheduleFault} (λ delays. is_schedule delays ≡ true) (if many then Err TooMany else Ok (extended n (written_out entries)))
list_by n entries true e h = err TooMany
list_by n entries false e h = ok (extended n (written_out entries)) (rw (few_extended n entries e, short_extended n (written_out entries) h))

list_is_schedule : (n : ℕ) (entries : List Entry) → list_all is_short (written_out entries) ≡ true
    → Holds (λ delays. is_schedule delays ≡ true) (list_of n entries)
list_is_schedule n entries h = list_by n entries (nat_lt 100 (max (attempts entries) n)) refl h

text_is_schedule : (delays : Option (List ℕ)) (n : ℕ) → Holds (λ delays. is_schedule delays ≡ true) (schedule_of delays n)
text_is_schedule None n = list_is_schedule n (default_entry ∷ []) refl
text_is_schedule (Some text) n = bind (entries_short 1 (slice_split is_comma text)) (list_is_schedule n)

in_schedule_of : {Q : List ℕ → Type 0} (r : Result (List ℕ) ScheduleFault) → Holds Q r → Holds Q (in_schedule r)
in_schedule_of (Ok delays) h = ok delays (h.of delays refl)
in_schedule_of (Err fault) h = err BadArgument

schedule_of_text : (delays : Option (List ℕ)) (retries : ℕ) → Holds (λ delays. is_schedule delays ≡ true) (schedule delays retries)
schedule_of_text delays retries = in_schedule_of (schedule_of delays retries) (text_is_schedule delays retries)

pub schedule_param_of : (step : Members) → Holds (λ delays. is_schedule delays ≡ true) (schedule_param step)
schedule_param_of step =
    skip (maybe text (get_member (codes "delayTime") step)) (λ delays.
    skip (optional 5 (number 0 999_999_999) (get_member (codes "maxRetries") step)) (λ retries.
    schedule_of_text delays retries))
