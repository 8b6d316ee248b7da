-- The images of a disk at rest, and of one that was at rest before one write.
use Rattle.std.specs.Prelude.{◌≡◌, ℕ, ◌+◌, ◌-◌, ◌<◌, ◌≤◌, max, List, ◌++◌, length, take, drop, get_or}
use Rattle.std.proofs.Common.{inl, inr, sym, ◌∙◌, ap, arith, length-append, length-drop}
use Rattle.std.proofs.lemmas.List.{get_or-take, get_or-drop, get_or_append_left, get_or-append-add, length-take-le}
use Rattle.std.proofs.Math.Seq.{ext_get_or}
use Rattle.mj_disk.specs.Media.{IsImage, overwritten, settled, written}

-- a place outside the range reads as before
pub outside_front : (at : ℕ) (piece bytes : List ℕ) (place : ℕ) → at ≤ length bytes → place < at → get_or (overwritten at piece bytes) place 0 ≡ get_or bytes place 0
outside_front at piece bytes place within low =
    let size : length (take at bytes) ≡ at = length-take-le at bytes within in
    get_or_append_left (take at bytes ++ piece) (drop (at + length piece) bytes) 0 place (omega (arith, length-append (take at bytes) piece))
    ∙ get_or_append_left (take at bytes) piece 0 place (omega arith)
    ∙ get_or-take at bytes place 0 low

pub outside_back : (at : ℕ) (piece bytes : List ℕ) (place : ℕ) → at ≤ length bytes → at + length piece ≤ place → get_or (overwritten at piece bytes) place 0 ≡ get_or bytes place 0
outside_back at piece bytes place within high =
    let size : length (take at bytes) ≡ at = length-take-le at bytes within in
    let long : length (take at bytes ++ piece) ≡ at + length piece = omega (arith, length-append (take at bytes) piece) in
    let split : place ≡ length (take at bytes ++ piece) + (place - (at + length piece)) = omega arith in
    let back : at + length piece + (place - (at + length piece)) ≡ place = omega arith in
    ap (λ (k : ℕ). get_or (overwritten at piece bytes) k 0) split
    ∙ get_or-append-add (take at bytes ++ piece) (drop (at + length piece) bytes) (place - (at + length piece)) 0
    ∙ get_or-drop (at + length piece) bytes (place - (at + length piece)) 0
    ∙ ap (λ (k : ℕ). get_or bytes k 0) back

-- of a disk at rest
pub image_settled : (bytes c : List ℕ) → IsImage (settled bytes) c → c ≡ bytes
image_settled bytes c i = let least = i.no_shorter in let most = i.no_longer in
    ext_get_or 0 c bytes (omega arith) (λ k low. i.same k (omega arith) tt)

-- after one write: any bytes in the range and past the old end, the same elsewhere
pub record Torn (at n : ℕ) (old new : List ℕ) : Type 0 where
  pub before : take at new ≡ take at old
  pub after : drop (at + n) new ≡ drop (at + n) old
  pub no_shorter : length old ≤ length new
  pub no_longer : length new ≤ max (length old) (at + n)

pub image_written : (at : ℕ) (piece bytes c : List ℕ) → at ≤ length bytes → IsImage (written at piece (settled bytes)) c → Torn at (length piece) bytes c
image_written at piece bytes c within i =
    let least = i.no_shorter in
    let most = i.no_longer in
    let front_size : length (take at c) ≡ at = length-take-le at c (omega arith) in
    let front_old : length (take at bytes) ≡ at = length-take-le at bytes within in
    let back_size = length-drop (at + length piece) c in
    let back_old = length-drop (at + length piece) bytes in
    record {
      before = ext_get_or 0 (take at c) (take at bytes) (omega arith) (λ k low.
          get_or-take at c k 0 (omega arith) ∙ i.same k (omega arith) (inl (omega arith), tt) ∙ outside_front at piece bytes k within (omega arith) ∙ sym (get_or-take at bytes k 0 (omega arith)));
      after = ext_get_or 0 (drop (at + length piece) c) (drop (at + length piece) bytes) (omega arith) (λ k low.
          get_or-drop (at + length piece) c k 0 ∙ i.same (at + length piece + k) (omega arith) (inr (omega arith), tt) ∙ outside_back at piece bytes (at + length piece + k) within (omega arith) ∙ sym (get_or-drop (at + length piece) bytes k 0));
      no_shorter = least;
      no_longer = most;
    }
