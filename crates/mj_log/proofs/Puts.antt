-- What a log is once frames were put behind its gate.
use Rattle.std.proofs.Common.{◌≡◌, inl, inr, ⊎_elim, ℕ, zero, suc, ◌+◌, List, [], ◌∷◌, ◌++◌, length, take, replicate, refl, sym, ◌∙◌, ap, subst, arith, append_assoc, length-append}
use Rattle.std.specs.Prelude.{Option, Some, None}
use Rattle.std.proofs.lemmas.List.{take_at, take_all, length-replicate}
use Rattle.mj_disk.specs.Media.{Media, IsImage, settled}
use Rattle.mj_disk.specs.Moments.{Now, LeavesNow, LeavesOnly, RestsAt}
use Rattle.mj_disk.specs.MomentLaws.{stays, now_weaker, only_weaker, only_now, leaves_now}
use Rattle.mj_log.specs.Journal.{Reading, reads, payloads}
use Rattle.mj_log.specs.FrameLaws.{Leads, chain, framed, four, AllShort, chain_reads}
use Rattle.mj_log.specs.Log.{ReadsAs, WithOrWithout, IsAt}
use Rattle.mj_log.specs.Gate.{IsGated}
use Rattle.mj_log.specs.Places.{gates_of, listed, AreSpaced, ArePlaced, IsJournal, IsHeld}
use Rattle.mj_log.specs.View.{told_of}
use Rattle.mj_log.proofs.Placing.{spaced_next, placed_chain}

-- what a gate may leave reads with the new payloads or without
gated_reads : (ps : List (List ℕ)) (front tail : List ℕ) (q : List ℕ) (qs : List (List ℕ)) → tail ≡ chain q qs → AllShort (q ∷ qs) → Leads ps front → (c : List ℕ) → IsGated front tail c → WithOrWithout ps (q ∷ qs) c
gated_reads ps front tail q qs is short leads c (inl (junk, e)) = inl (ap payloads e ∙ leads.closed junk)
gated_reads ps front tail q qs is short leads c (inr (zero, e)) = inl (ap payloads e ∙ leads.closed tail)
gated_reads ps front tail q qs is short leads c (inr (suc g, e)) =
    inr (ap payloads (e ∙ ap (λ (t : List ℕ). front ++ suc g ∷ t) is) ∙ chain_reads ps front (suc g) q qs (omega arith) short leads)

-- the payloads that are told are those that the journal has
pub same_payloads : (places : List ℕ) (end : ℕ) (m : Media) (j : IsJournal places end m) → take (length places) (listed (payloads m.bytes)) ≡ j.payloads_are
same_payloads places end m j =
    let bytes : m.bytes ≡ j.front ++ 0 ∷ [] = ap (λ (n : Media). n.bytes) j.rests in
    ap (λ (r : Reading). take (length places) (listed r)) (ap payloads bytes ∙ j.placed.leads.closed []) ∙ take_all (length places) j.payloads_are (omega (arith, j.placed.number))

told_are : (places : List ℕ) (end : ℕ) (m : Media) (past : List Media) (j : IsJournal places end m) (ps : List (List ℕ)) → told_of (m ∷ past) (length places) ≡ Some ps → j.payloads_are ≡ ps
told_are places end m past j ps told = let same = same_payloads places end m j in let other : take (length places) (listed (payloads m.bytes)) ≡ ps = cc in sym same ∙ other

pub held_of : (h : List Media) (places : List ℕ) (end : ℕ) → Now h (IsJournal places end) → Now h (IsHeld places end)
held_of [] places end now = tt
held_of (m ∷ past) places end j = record {
  front = j.front;
  junk = 0 ∷ [];
  payloads_are = j.payloads_are;
  placed = j.placed;
  whole = ap (λ (n : Media). n.bytes) j.rests;
  told = same_payloads places end m j;
}

gated_whole : (front tail c : List ℕ) → IsGated front tail c → (junk : List ℕ) × (c ≡ front ++ junk)
gated_whole front tail c (inl (junk, e)) = (0 ∷ junk, e)
gated_whole front tail c (inr (gate, e)) = (gate ∷ tail, e)

module _ (h0 h1 : List Media) (places : List ℕ) (end : ℕ) (tail q : List ℕ) (qs : List (List ℕ)) (is : tail ≡ chain q qs) (short : AllShort (q ∷ qs)) (gated : (front : List ℕ) → length front ≡ end → RestsAt h0 (front ++ 0 ∷ []) → LeavesOnly h0 h1 (IsGated front tail)) where
  pub put_leaves : (ps : List (List ℕ)) → Now h0 (IsJournal places end) → told_of h0 (length places) ≡ Some ps → LeavesOnly h0 h1 (WithOrWithout ps (q ∷ qs))
  put_leaves ps = by_cases h0 gated
    where
      by_cases : (h : List Media) → ((front : List ℕ) → length front ≡ end → RestsAt h (front ++ 0 ∷ []) → LeavesOnly h h1 (IsGated front tail)) → Now h (IsJournal places end) → told_of h (length places) ≡ Some ps → LeavesOnly h h1 (WithOrWithout ps (q ∷ qs))
      by_cases [] gated now told = absurd (cc)
      by_cases (m ∷ past) gated j told =
          let leads : Leads ps j.front = subst (λ (l : List (List ℕ)). Leads l j.front) (told_are places end m past j ps told) j.placed.leads in
          only_weaker (m ∷ past) h1 (IsGated j.front tail) (WithOrWithout ps (q ∷ qs)) (gated_reads ps j.front tail q qs is short leads) (gated j.front j.placed.size j.rests)

  journal_after : (m n : Media) (j : IsJournal places end m) → n ≡ settled (j.front ++ 1 ∷ tail) → (k : IsJournal (places ++ gates_of end (q ∷ qs)) (end + length tail) n) × (k.payloads_are ≡ j.payloads_are ++ q ∷ qs)
  journal_after m n j rests =
      let o = placed_chain places end j.payloads_are j.front 1 q qs (omega arith) short j.placed in
      let bytes : j.front ++ 1 ∷ tail ≡ o.0 ++ 0 ∷ [] = ap (λ (t : List ℕ). j.front ++ 1 ∷ t) is ∙ o.2 in (
        record {
          front = o.0;
          payloads_are = j.payloads_are ++ q ∷ qs;
          placed = subst (λ (t : List ℕ). ArePlaced (places ++ gates_of end (q ∷ qs)) (end + length t) (j.payloads_are ++ q ∷ qs) o.0) (sym is) o.1;
          rests = rests ∙ ap settled bytes;
        },
        refl,
      )

  pub put_invariant : Now h0 (IsJournal places end) → ((front : List ℕ) → length front ≡ end → RestsAt h0 (front ++ 0 ∷ []) → RestsAt h1 (front ++ 1 ∷ tail)) → Now h1 (IsJournal (places ++ gates_of end (q ∷ qs)) (end + length tail))
  put_invariant = by_cases h0 h1 gated
    where
      by_cases : (h k : List Media) → ((front : List ℕ) → length front ≡ end → RestsAt h (front ++ 0 ∷ []) → LeavesOnly h k (IsGated front tail)) → Now h (IsJournal places end)
          → ((front : List ℕ) → length front ≡ end → RestsAt h (front ++ 0 ∷ []) → RestsAt k (front ++ 1 ∷ tail)) → Now k (IsJournal (places ++ gates_of end (q ∷ qs)) (end + length tail))
      by_cases h [] gated now done = tt
      by_cases [] (n ∷ later) gated now done = let none : n ∷ later ≡ [] = (gated (replicate end 0) (length-replicate end 0) tt).tells refl in absurd (cc)
      by_cases (m ∷ past) (n ∷ later) gated j done = (journal_after m n j (done j.front j.placed.size j.rests)).0

  pub put_added : (ps : List (List ℕ)) (stop : Option ℕ) → stop ≡ None → Now h0 (IsJournal places end) → ((front : List ℕ) → length front ≡ end → RestsAt h0 (front ++ 0 ∷ []) → RestsAt h1 (front ++ 1 ∷ tail))
      → told_of h0 (length places) ≡ Some ps → IsAt (told_of h1 (length (places ++ gates_of end (q ∷ qs)))) stop h1 (ps ++ q ∷ qs)
  put_added ps stop never = by_cases h0 h1 gated
    where
      by_cases : (h k : List Media) → ((front : List ℕ) → length front ≡ end → RestsAt h (front ++ 0 ∷ []) → LeavesOnly h k (IsGated front tail)) → Now h (IsJournal places end)
          → ((front : List ℕ) → length front ≡ end → RestsAt h (front ++ 0 ∷ []) → RestsAt k (front ++ 1 ∷ tail)) → told_of h (length places) ≡ Some ps → IsAt (told_of k (length (places ++ gates_of end (q ∷ qs)))) stop k (ps ++ q ∷ qs)
      by_cases [] k gated now done told = absurd (cc)
      by_cases (m ∷ past) [] gated j done told =
          let on = gated j.front j.placed.size j.rests in absurd (omega (arith, ap length on.goes_on, length-append on.passed (m ∷ past)))
      by_cases (m ∷ past) (n ∷ later) gated j done told =
          let after = journal_after m n j (done j.front j.placed.size j.rests) in
          let all : after.0.payloads_are ≡ ps ++ q ∷ qs = after.1 ∙ ap (λ (l : List (List ℕ)). l ++ q ∷ qs) (told_are places end m past j ps told) in
          let k = after.0 in
          record {
            has = ap (λ (l : List (List ℕ)). Some l) (same_payloads (places ++ gates_of end (q ∷ qs)) (end + length tail) n k ∙ all);
            open_yet = never;
            durable = leaves_now (ReadsAs (ps ++ q ∷ qs)) (n ∷ later) (k.front ++ 0 ∷ []) k.rests (k.placed.leads.closed [] ∙ ap reads all);
          }

  -- a fault leaves the payloads that the log has as they were, at their places
  fault_held : (m n : Media) (j : IsJournal places end m) → IsGated j.front tail n.bytes → (k : IsHeld places end n) × (k.payloads_are ≡ j.payloads_are)
  fault_held m n j left =
      let whole = gated_whole j.front tail n.bytes left in
      let same : take (length places) (listed (payloads n.bytes)) ≡ j.payloads_are = ⊎_elim
      (λ (r : ReadsAs j.payloads_are n.bytes). ap (λ (x : Reading). take (length places) (listed x)) r ∙ take_all (length places) j.payloads_are (omega (arith, j.placed.number)))
      (λ (r : ReadsAs (j.payloads_are ++ q ∷ qs) n.bytes). ap (λ (x : Reading). take (length places) (listed x)) r ∙ take_at j.payloads_are (q ∷ qs) (length places) (sym j.placed.number))
      (gated_reads j.payloads_are j.front tail q qs is short j.placed.leads n.bytes left) in
      (record { front = j.front; junk = whole.0; payloads_are = j.payloads_are; placed = j.placed; whole = whole.1; told = same }, refl)

  pub put_held : Now h0 (IsJournal places end) → Now h1 (λ m. IsImage m m.bytes) → Now h1 (IsHeld places end)
  put_held = by_cases h0 h1 gated
    where
      by_cases : (h k : List Media) → ((front : List ℕ) → length front ≡ end → RestsAt h (front ++ 0 ∷ []) → LeavesOnly h k (IsGated front tail)) → Now h (IsJournal places end) → Now k (λ m. IsImage m m.bytes) → Now k (IsHeld places end)
      by_cases h [] gated now itself = tt
      by_cases [] (n ∷ later) gated now itself = let none : n ∷ later ≡ [] = (gated (replicate end 0) (length-replicate end 0) tt).tells refl in absurd (cc)
      by_cases (m ∷ past) (n ∷ later) gated j itself =
          (fault_held m n j (only_now (m ∷ past) (n ∷ later) (IsGated j.front tail) (gated j.front j.placed.size j.rests) n.bytes itself)).0

  pub put_told : Now h0 (IsJournal places end) → Now h1 (λ m. IsImage m m.bytes) → told_of h1 (length places) ≡ told_of h0 (length places)
  put_told = by_cases h0 h1 gated
    where
      by_cases : (h k : List Media) → ((front : List ℕ) → length front ≡ end → RestsAt h (front ++ 0 ∷ []) → LeavesOnly h k (IsGated front tail)) → Now h (IsJournal places end) → Now k (λ m. IsImage m m.bytes) → told_of k (length places) ≡ told_of h (length places)
      by_cases [] k gated now itself = ap (λ (l : List Media). told_of l (length places)) ((gated (replicate end 0) (length-replicate end 0) tt).tells refl)
      by_cases (m ∷ past) [] gated j itself =
          let on = gated j.front j.placed.size j.rests in absurd (omega (arith, ap length on.goes_on, length-append on.passed (m ∷ past)))
      by_cases (m ∷ past) (n ∷ later) gated j itself =
          let held = fault_held m n j (only_now (m ∷ past) (n ∷ later) (IsGated j.front tail) (gated j.front j.placed.size j.rests) n.bytes itself) in
          ap (λ (l : List (List ℕ)). Some l) (held.0.told ∙ held.1 ∙ sym (same_payloads places end m j))

-- nothing was written
pub stays_with : (h : List Media) (ps more : List (List ℕ)) → LeavesNow h (ReadsAs ps) → LeavesOnly h h (WithOrWithout ps more)
stays_with h ps more now = stays h (WithOrWithout ps more) (now_weaker (ReadsAs ps) (WithOrWithout ps more) (λ c r. inl r) h now)

-- the gates are apart whatever the disk tells
pub spaced_gates : (places : List ℕ) (end : ℕ) (q : List ℕ) (qs : List (List ℕ)) → AreSpaced places end → AreSpaced (places ++ gates_of end (q ∷ qs)) (end + length (chain q qs))
spaced_gates places end q [] h =
    subst (λ (n : ℕ). AreSpaced (places ++ end ∷ []) n) (omega (arith, length-append (framed q) (0 ∷ []), length-append (four (length q)) q)) (spaced_next places end (end + (5 + length q)) h (omega arith))
spaced_gates places end q (r ∷ rs) h =
    let next = end + (5 + length q) in
    subst (λ (l : List ℕ). AreSpaced l (end + length (chain q (r ∷ rs)))) (append_assoc places (end ∷ []) (gates_of next (r ∷ rs)))
    (subst (λ (n : ℕ). AreSpaced ((places ++ end ∷ []) ++ gates_of next (r ∷ rs)) n) (omega (arith, length-append (framed q) (1 ∷ chain r rs), length-append (four (length q)) q))
    (spaced_gates (places ++ end ∷ []) next r rs (spaced_next places end next h (omega arith))))
