-- The image that a disk in memory makes is one that a crash may leave.
use Rattle.std.proofs.Common.{◌≡◌, ◌⊎◌, ⊎_elim, ℕ, ◌+◌, ◌<◌, ◌≤◌, List, [], ◌∷◌, ◌++◌, length, drop, get_or, sym, ◌∙◌, ap, subst, arith, length-append}
use Rattle.std.specs.Prelude.{Some}
use Rattle.std.proofs.lemmas.List.{get_or_append_left}
use Rattle.std.proofs.Math.Seq.{get_or-append_seam}
use Rattle.mj_disk.specs.declared.tape.DiskCall.{DiskCall}
use Rattle.mj_disk.specs.declared.tape.DiskCall.TheVariants.{Write, Cut, Sync}
use Rattle.mj_disk.specs.Media.{Media, IsImage, IsOutside}
use Rattle.mj_disk.specs.Moments.{Now, bytes_now}
use Rattle.mj_disk.specs.Past.{Past, Fits, moments_of, fits_now}
use Rattle.mj_disk.specs.Tape.{ranges, IsKept, IsTaped}
use Rattle.mj_disk.proofs.Tearing.{told}

pub outside_head : (call : DiskCall) (calls : List DiskCall) (place : ℕ) → IsOutside (ranges (call ∷ calls)) place → IsOutside (ranges (call ∷ [])) place
outside_head (Write at bytes) calls place h = (h.0, tt)
outside_head (Cut size) calls place h = tt
outside_head Sync calls place h = tt

pub outside_tail : (call : DiskCall) (calls : List DiskCall) (place : ℕ) → IsOutside (ranges (call ∷ calls)) place → IsOutside (ranges calls) place
outside_tail (Write at bytes) calls place h = h.1
outside_tail (Cut size) calls place h = h
outside_tail Sync calls place h = h

lt_or_eq : (a b : ℕ) → a < b + 1 → (a < b) ⊎ (a ≡ b)
lt_or_eq a b h = grind arith

-- one byte more
pub kept_push : (calls : List DiskCall) (bytes image : List ℕ) (least b : ℕ) → IsKept calls bytes least image
    → (length image < least → IsOutside (ranges calls) (length image) → b ≡ get_or bytes (length image) 0) → IsKept calls bytes least (image ++ b ∷ [])
kept_push calls bytes image least b so_far here place low outside within =
    ⊎_elim
    (λ (before : place < length image). get_or_append_left image (b ∷ []) 0 place before ∙ so_far place low outside before)
    (λ (last : place ≡ length image). ap (λ (k : ℕ). get_or (image ++ b ∷ []) k 0) last ∙ get_or-append_seam image b [] 0
    ∙ here (subst (λ (k : ℕ). k < least) last low) (subst (λ (k : ℕ). IsOutside (ranges calls) k) last outside) ∙ ap (λ (k : ℕ). get_or bytes k 0) (sym last))
    (lt_or_eq place (length image) (omega (arith, length-append image (b ∷ []))))

module _ (first bytes : List ℕ) (calls : List DiskCall) (synced least greatest : ℕ) (was : IsTaped first calls bytes synced least greatest) where
  both : (ms : List Media) (k : Media) (P : Media → Type 0) → Now ms (λ m. m ≡ k) → (P k) → Now ms P
  both [] k P is p = tt
  both (m ∷ ms) k P is p = subst P (sym is) p

  fits_at : (ms : List Media) (k : Media) → Now ms (λ m. m ≡ k) → Now ms Fits → bytes_now ms ≡ Some k.bytes → Fits k
  fits_at [] k is f some = absurd (cc)
  fits_at (m ∷ ms) k is f some = subst Fits is f

  pub ordered : least ≤ greatest
  ordered =
      let past : Past = record { first = first; calls = calls } in
      let f = fits_at (moments_of past) (record { bytes = bytes; least = least; greatest = greatest; touched = ranges (drop synced calls) }) was.last (fits_now past) (told past _ was.last) in
      omega arith

  pub is_image : (image : List ℕ) → least ≤ length image → length image ≤ greatest → IsKept (drop synced calls) bytes least image
      → Now (moments_of (record { first = first; calls = calls })) (λ m. IsImage m image)
  is_image image low high kept = both (moments_of (record { first = first; calls = calls })) _ (λ m. IsImage m image) was.last
      (record { no_shorter = low; no_longer = high; same = λ place below outside. kept place below outside (omega arith) })
