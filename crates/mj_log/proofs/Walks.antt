-- The frames of a file, one after the other.
use Rattle.std.proofs.Common.{◌≡◌, ℕ, suc, ◌+◌, ◌-◌, ◌<◌, ◌≤◌, List, [], ◌∷◌, ◌++◌, length, take, drop, get_or, sym, ◌∙◌, ap, subst, arith, length-append, length-drop, take-append-drop, take-add}
use Rattle.std.specs.Prelude.{false}
use Rattle.std.specs.Str.{bytes_eq}
use Rattle.std.proofs.lemmas.List.{drop_more, length-take-le}
use Rattle.mj_disk.specs.Media.{Media}
use Rattle.mj_disk.specs.Moments.{Now}
use Rattle.mj_log.specs.FrameLaws.{framed, four, leads_broken, other_file}
use Rattle.mj_log.specs.Header.{IsFrame, IsBroken, StopsAt}
use Rattle.mj_log.specs.Journal.{magic, payloads, damaged, not_a_journal}
use Rattle.mj_log.specs.Places.{ArePlaced, IsWalked}
use Rattle.mj_log.specs.View.{Refuses}
use Rattle.mj_log.specs.declared.fault.LogFault.{LogFault}
use Rattle.mj_log.specs.declared.fault.LogFault.TheVariants.{NotAJournal, Damaged, Full, DiskFault, Stopped, Memory}
use Rattle.mj_log.proofs.Placing.{placed_none, placed_next}

-- the file has frames at these places as far as the end
pub record HasFrames (places : List ℕ) (end : ℕ) (bytes : List ℕ) : Type 0 where
  pub payloads_are : List (List ℕ)
  pub placed : ArePlaced places end payloads_are (take end bytes)

pub walk_begins : (bytes : List ℕ) → take 8 bytes ≡ magic → HasFrames [] 8 bytes
walk_begins bytes is = record { payloads_are = []; placed = subst (λ (l : List ℕ). ArePlaced [] 8 [] l) (sym is) placed_none }

pub walk_next : (places : List ℕ) (end next : ℕ) (bytes : List ℕ) → HasFrames places end bytes → IsFrame bytes end next → end + 5 ≤ next → next < length bytes → HasFrames (places ++ end ∷ []) next bytes
walk_next places end next bytes h f least within =
    let size = next - (end + 5) in
    let rest = drop (end + 1) bytes in
    let long : length rest ≡ length bytes - (end + 1) = length-drop (end + 1) bytes in
    let q : List ℕ = take size (drop 4 rest) in
    let qs : length q ≡ size = length-take-le size (drop 4 rest) (omega (arith, length-drop 4 rest)) in
    let body : take (4 + size) rest ≡ framed q = take-add 4 size rest ∙ ap (λ (l : List ℕ). l ++ q) f.size ∙ ap (λ (n : ℕ). four n ++ q) (sym qs) in
    let split : drop end bytes ≡ get_or bytes end 0 ∷ rest = drop_more bytes end 0 (omega arith) in
    let five : next ≡ end + suc (4 + size) = omega arith in
    let front : take next bytes ≡ take end bytes ++ get_or bytes end 0 ∷ framed q =
    ap (λ (n : ℕ). take n bytes) five
    ∙ take-add end (suc (4 + size)) bytes ∙ ap (λ (l : List ℕ). take end bytes ++ take (suc (4 + size)) l) split
    ∙ ap (λ (l : List ℕ). take end bytes ++ get_or bytes end 0 ∷ l) body in
    let ends : end + (5 + length q) ≡ next = omega (arith, qs) in
    record {
      payloads_are = h.payloads_are ++ q ∷ [];
      placed = subst (λ (l : List ℕ). ArePlaced (places ++ end ∷ []) next (h.payloads_are ++ q ∷ []) l) (sym front)
          (subst (λ (n : ℕ). ArePlaced (places ++ end ∷ []) n (h.payloads_are ++ q ∷ []) (take end bytes ++ get_or bytes end 0 ∷ framed q)) ends
          (placed_next places end h.payloads_are (take end bytes) (get_or bytes end 0) q f.is_open (let short = f.short in omega arith) h.placed));
    }

pub walk_ends : (places : List ℕ) (end : ℕ) (bytes : List ℕ) → HasFrames places end bytes → end < length bytes → get_or bytes end 0 ≡ 0 → IsWalked places end bytes
walk_ends places end bytes h within gate = record {
  front = take end bytes;
  junk = drop (end + 1) bytes;
  payloads_are = h.payloads_are;
  placed = h.placed;
  whole = sym (take-append-drop end bytes) ∙ ap (λ (l : List ℕ). take end bytes ++ l) (drop_more bytes end 0 within ∙ ap (λ (n : ℕ). n ∷ drop (end + 1) bytes) gate);
}

-- a gate that is open, and no whole frame behind it
walk_breaks : (places : List ℕ) (end : ℕ) (bytes : List ℕ) → HasFrames places end bytes → end < length bytes → 9 < length bytes → IsBroken bytes end → payloads bytes ≡ damaged (length places)
walk_breaks places end bytes h within long broken =
    let rest = drop (end + 1) bytes in
    let split : drop end bytes ≡ get_or bytes end 0 ∷ rest = drop_more bytes end 0 within in
    let whole : bytes ≡ take end bytes ++ get_or bytes end 0 ∷ rest = sym (take-append-drop end bytes) ∙ ap (λ (l : List ℕ). take end bytes ++ l) split in
    let size : length (take end bytes) + (1 + length rest) ≡ length bytes = omega (arith, ap (λ (l : List ℕ). length l) whole, length-append (take end bytes) (get_or bytes end 0 ∷ rest)) in
    ap payloads whole ∙ leads_broken h.payloads_are (take end bytes) (get_or bytes end 0) rest broken.0 broken.1 (omega arith) h.placed.leads ∙ ap damaged (sym h.placed.number)

pub walk_stops : (e : LogFault) (places : List ℕ) (end : ℕ) (bytes : List ℕ) → HasFrames places end bytes → end < length bytes → 9 < length bytes → StopsAt e (length places) bytes end → Refuses e (payloads bytes)
walk_stops NotAJournal places end bytes h within long stops = absurd stops
walk_stops (Damaged n) places end bytes h within long stops = walk_breaks places end bytes h within long stops.1 ∙ ap damaged (sym stops.0)
walk_stops (Full e n) places end bytes h within long stops = absurd stops
walk_stops (DiskFault n) places end bytes h within long stops = tt
walk_stops (Stopped n) places end bytes h within long stops = absurd stops
walk_stops Memory places end bytes h within long stops = tt

-- the same of a disk that may tell its bytes
pub begins_now : (h : List Media) → Now h (λ m. take 8 m.bytes ≡ magic) → Now h (λ m. HasFrames [] 8 m.bytes)
begins_now [] is = tt
begins_now (m ∷ past) is = walk_begins m.bytes is

pub next_now : (h : List Media) (places : List ℕ) (end next file : ℕ) → Now h (λ m. length m.bytes ≡ file) → Now h (λ m. HasFrames places end m.bytes) → Now h (λ m. IsFrame m.bytes end next) → end + 5 ≤ next → next < file → Now h (λ m. HasFrames (places ++ end ∷ []) next m.bytes)
next_now [] places end next file long frames frame least within = tt
next_now (m ∷ past) places end next file long frames frame least within = walk_next places end next m.bytes frames frame least (omega arith)

pub ends_now : (h : List Media) (places : List ℕ) (end file : ℕ) → Now h (λ m. length m.bytes ≡ file) → Now h (λ m. HasFrames places end m.bytes) → end < file → Now h (λ m. get_or m.bytes end 0 ≡ 0) → Now h (λ m. IsWalked places end m.bytes)
ends_now [] places end file long frames within gate = tt
ends_now (m ∷ past) places end file long frames within gate = walk_ends places end m.bytes frames (omega arith) gate

pub stops_now : (e : LogFault) (h : List Media) (places : List ℕ) (end file : ℕ) → Now h (λ m. length m.bytes ≡ file) → Now h (λ m. HasFrames places end m.bytes) → end < file → 9 < file → Now h (λ m. StopsAt e (length places) m.bytes end) → Now h (λ m. Refuses e (payloads m.bytes))
stops_now e [] places end file long frames within nine stops = tt
stops_now e (m ∷ past) places end file long frames within nine stops = walk_stops e places end m.bytes frames (omega arith) (omega arith) stops

-- a file that begins otherwise
pub other_now : (h : List Media) (file : ℕ) → Now h (λ m. length m.bytes ≡ file) → 9 < file → Now h (λ m. false ≡ bytes_eq (take 8 m.bytes) magic) → Now h (λ m. payloads m.bytes ≡ not_a_journal)
other_now [] file long nine other = tt
other_now (m ∷ past) file long nine other = other_file m.bytes (omega arith) (sym other)
