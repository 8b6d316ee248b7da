-- A payload that is read where it stands.
use Rattle.std.proofs.Common.{◌≡◌, ℕ, ◌+◌, ◌-◌, ◌<◌, ◌≤◌, List, [], ◌∷◌, length, take, drop, get_or, sym, ◌∙◌, ap, arith, length-append, length-drop}
use Rattle.std.specs.Prelude.{Some}
use Rattle.std.proofs.lemmas.List.{take_all, length-take-le, drop-take, drop-drop, take-take}
use Rattle.mj_disk.specs.Media.{Media}
use Rattle.mj_disk.specs.Moments.{Now}
use Rattle.mj_log.specs.Places.{size_at, bytes_at, listed, AreSpaced, IsHeld}
use Rattle.mj_log.specs.Journal.{payloads}
use Rattle.mj_log.specs.View.{told_of}
use Rattle.mj_log.proofs.Placing.{part_of_front}

module _ (places : List ℕ) (end number : ℕ) (low : number < length places) where
  pub apart : AreSpaced places end → get_or places number end + 5 + size_at places end number ≤ end
  apart spaced = let rise = spaced.rise number low in let below = spaced.below (number + 1) (omega arith) in omega arith

  told_payloads : (m : Media) (past : List Media) (j : IsHeld places end m) (ps : List (List ℕ)) → told_of (m ∷ past) (length places) ≡ Some ps → j.payloads_are ≡ ps
  told_payloads m past j ps told = let other : take (length places) (listed (payloads m.bytes)) ≡ ps = cc in sym j.told ∙ other

  -- the disk has the payload where it is looked for
  stands : (m : Media) (past : List Media) (j : IsHeld places end m) (ps : List (List ℕ)) → told_of (m ∷ past) (length places) ≡ Some ps → bytes_at places end number m.bytes ≡ get_or ps number []
  stands m past j ps told =
      ap (λ (l : List ℕ). bytes_at places end number l) j.whole
      ∙ part_of_front (get_or places number end + 5) (size_at places end number) j.front j.junk (let within = apart j.placed.spaced in omega (arith, j.placed.size))
      ∙ j.placed.each number low
      ∙ ap (λ (l : List (List ℕ)). get_or l number []) (told_payloads m past j ps told)

  pub long_enough : (h : List Media) → Now h (IsHeld places end) → (at : ℕ) → at ≤ end → Now h (λ m. at ≤ length m.bytes)
  long_enough [] held at within = tt
  long_enough (m ∷ past) j at within = omega (arith, ap (λ (l : List ℕ). length l) j.whole, length-append j.front j.junk, j.placed.size)

  -- a read that gives what stands at a place of the payload gives that part of it
  pub part_is : (h : List Media) → Now h (IsHeld places end) → (ps : List (List ℕ)) → told_of h (length places) ≡ Some ps → (from n : ℕ) (old new : List ℕ) → from + length old ≤ size_at places end number → length new ≡ length old → n ≤ length old
      → Now h (λ m. take n new ≡ take (length old) (drop (get_or places number end + 5 + from) m.bytes)) → new ≡ take (length old) (drop from (get_or ps number []))
  part_is [] held ps told from n old new within same few read = absurd (cc)
  part_is (m ∷ past) j ps told from n old new within same few read =
      let gate = get_or places number end in
      let size = size_at places end number in
      let below = apart j.placed.spaced in
      let long = long_enough (m ∷ past) j end (omega arith) in
      let piece : List ℕ = drop (gate + 5 + from) m.bytes in
      let full : length (take (length old) piece) ≡ length old = length-take-le (length old) piece (omega (arith, length-drop (gate + 5 + from) m.bytes)) in
      let cut : length (take n new) ≡ n = length-take-le n new (omega arith) in
      let all : n ≡ length new = omega (arith, ap (λ (l : List ℕ). length l) read) in
      let split : size ≡ from + (size - from) = omega arith in
      let back : List ℕ = drop from (drop (gate + 5) m.bytes) in
      sym (take_all n new (omega arith)) ∙ read
      ∙ ap (λ (l : List ℕ). take (length old) l) (sym (drop-drop from (gate + 5) m.bytes))
      ∙ sym (take-take (length old) (size - from) back (omega arith))
      ∙ ap (λ (l : List ℕ). take (length old) l) (sym (drop-take from (size - from) (drop (gate + 5) m.bytes)))
      ∙ ap (λ (k : ℕ). take (length old) (drop from (take k (drop (gate + 5) m.bytes)))) (sym split)
      ∙ ap (λ (l : List ℕ). take (length old) (drop from l)) (stands m past j ps told)
