-- The moments of a disk in memory, from what it held first and the calls since that changed it.
use Rattle.std.specs.Prelude.{◌≡◌, ℕ, ◌+◌, ◌≤◌, List, [], ◌∷◌, ◌++◌, length, take, drop, refl}
use Rattle.std.proofs.Common.{arith, length-append, length-drop}
use Rattle.std.proofs.lemmas.List.{length-take}
use Rattle.mj_disk.specs.declared.tape.DiskCall.{DiskCall}
use Rattle.mj_disk.specs.declared.tape.DiskCall.TheVariants.{Write, Cut, Sync}
use Rattle.mj_disk.specs.Media.{Media, IsImage, written, shortened, synced, settled, overwritten}
use Rattle.mj_disk.specs.Moments.{Now}

-- what a disk held first, all of it synced, and the calls since
pub record Past : Type 0 where
  pub first : List ℕ
  pub calls : List DiskCall

-- one call more
abbrev pub then_call : Past → DiskCall → Past
then_call past call = record { first = past.first; calls = past.calls ++ call ∷ [] }

-- the disk after a call
abbrev pub after : DiskCall → Media → Media
after (Write at bytes) m = written at bytes m
after (Cut size) m = shortened size m
after Sync m = synced m

-- one moment more
abbrev pub then_moment : DiskCall → List Media → List Media
then_moment call [] = []
then_moment call (m ∷ ms) = after call m ∷ m ∷ ms

-- the moments after the calls, in order
abbrev pub called : List Media → List DiskCall → List Media
called ms [] = ms
called ms (call ∷ calls) = called (then_moment call ms) calls

abbrev pub moments_of : Past → List Media
moments_of past = called (settled past.first ∷ []) past.calls

-- a call more
called-push : (ms : List Media) (calls : List DiskCall) (call : DiskCall) → called ms (calls ++ call ∷ []) ≡ then_moment call (called ms calls)
called-push ms [] call = refl
called-push ms (c ∷ calls) call = called-push (then_moment c ms) calls call

pub moments_of-push : (past : Past) (call : DiskCall) → moments_of (then_call past call) ≡ then_moment call (moments_of past)
moments_of-push past call = called-push (settled past.first ∷ []) past.calls call

-- the disk as it reads has a length that a crash may leave
abbrev pub Fits : Media → Type 0
Fits m = (m.least ≤ length m.bytes) × (length m.bytes ≤ m.greatest)

fits_written : (at : ℕ) (piece : List ℕ) (m : Media) → Fits m → Fits (written at piece m)
fits_written at piece m f =
    let size : length (overwritten at piece m.bytes) ≡ length (take at m.bytes) + length piece + length (drop (at + length piece) m.bytes) =
    omega (arith, length-append (take at m.bytes ++ piece) (drop (at + length piece) m.bytes), length-append (take at m.bytes) piece) in
    let front = length-take at m.bytes in
    let back = length-drop (at + length piece) m.bytes in
    (omega arith, omega arith)

fits_after : (call : DiskCall) (m : Media) → Fits m → Fits (after call m)
fits_after (Write at bytes) m f = fits_written at bytes m f
fits_after (Cut size) m f = let short = length-take size m.bytes in (omega arith, omega arith)
fits_after Sync m f = (omega arith, omega arith)

fits_called : (ms : List Media) (calls : List DiskCall) → Now ms Fits → Now (called ms calls) Fits
fits_called ms [] f = f
fits_called [] (call ∷ calls) f = fits_called [] calls f
fits_called (m ∷ ms) (call ∷ calls) f = fits_called (after call m ∷ m ∷ ms) calls (fits_after call m f)

pub fits_now : (past : Past) → Now (moments_of past) Fits
fits_now past = fits_called _ past.calls (omega arith, omega arith)

to_image : (ms : List Media) → Now ms Fits → Now ms (λ m. IsImage m m.bytes)
to_image [] f = tt
to_image (m ∷ ms) f = record { no_shorter = f.0; no_longer = f.1; same = λ place low free. refl }

-- so the disk as it reads is one of its images
pub reads_itself : (past : Past) → Now (moments_of past) (λ m. IsImage m m.bytes)
reads_itself past = to_image (moments_of past) (fits_now past)
