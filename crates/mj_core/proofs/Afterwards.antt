-- What holds of a machine that was made of these configurations stays, whatever event happens to it.
use Rattle.std.proofs.Common.{◌≡◌, true, List, [], ◌∷◌, ◌++◌, length, take, ap, sym, ◌∙◌, subst, arith}
use Rattle.std.proofs.lemmas.List.{length_push}
use Rattle.std.proofs.Math.Seq.{take-append_seam}
use Rattle.mj_lawful.specs.Configurations.{Meanings}
use Rattle.mj_lawful.specs.Entries.{pending}
use Rattle.mj_lawful.specs.Machine.{after, enabled, Event, Machine}
use Rattle.mj_lawful.proofs.Runs.{IsWell, well_after}
use Rattle.mj_core.specs.Held.{Held, IsOf}

-- a machine that an event changed is still one of these configurations, if the mails that wait are the pending ones
pub of_after : (r : Meanings) (held later : Held) (event : Event) → IsOf r held → enabled r held.machine event ≡ true
    → later.machine ≡ after r held.machine event → later.waiting ≡ pending r later.machine.entries → IsOf r later
of_after r held later event is_of on is waits =
    let well = subst (λ (m : Machine). IsWell r m.entries) (sym is) (well_after r held.machine event on (is_of.lawful, is_of.begun)) in
    record { lawful = well.0; begun = well.1; waiting = waits }

-- what was put at the end and then taken out leaves the list as it was
pub taken_back : {X : Type 0} (xs ys : List X) (x y : X) → xs ++ x ∷ [] ≡ ys ++ y ∷ [] → ys ≡ xs
taken_back xs ys x y is =
    let longer = length_push xs x in
    let as_long = length_push ys y in
    let lengths : length (xs ++ x ∷ []) ≡ length (ys ++ y ∷ []) = ap length is in
    let same : length ys ≡ length xs = omega arith in
    sym (take-append_seam ys (y ∷ [])) ∙ ((λ i. take (same i) (sym is i)) ∙ take-append_seam xs (x ∷ []))
