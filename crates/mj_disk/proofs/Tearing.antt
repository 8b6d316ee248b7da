-- What a disk in memory tells after a call, done or not.
use Rattle.std.proofs.Common.{◌≡◌, ⊎_elim, ℕ, ◌≤◌, List, [], ◌∷◌, ◌++◌, length, refl, sym, ◌∙◌, ap, subst, arith}
use Rattle.std.specs.Prelude.{Result, Ok, Err, OnOk, OnErr, Some}
use Rattle.std.proofs.lemmas.List.{get_or-take}
use Rattle.mj_disk.specs.declared.tape.DiskCall.{DiskCall}
use Rattle.mj_disk.specs.ImageLaws.{outside_front, outside_back}
use Rattle.mj_disk.specs.Media.{Media, IsImage, IsOutside, written, shortened, settled}
use Rattle.mj_disk.specs.Moments.{Now, Images, LeavesNow, Changes, bytes_now}
use Rattle.mj_disk.specs.MomentLaws.{stays_at}
use Rattle.mj_disk.specs.Past.{Past, after, then_moment, then_call, called, moments_of, moments_of-push}

outside_front_of : (ranges : List (ℕ × ℕ)) (range : ℕ × ℕ) (place : ℕ) → IsOutside (ranges ++ range ∷ []) place → IsOutside ranges place
outside_front_of [] range place h = tt
outside_front_of (r ∷ ranges) range place h = (h.0, outside_front_of ranges range place h.1)

outside_last : (ranges : List (ℕ × ℕ)) (range : ℕ × ℕ) (place : ℕ) → IsOutside (ranges ++ range ∷ []) place → IsOutside (range ∷ []) place
outside_last [] range place h = h
outside_last (r ∷ ranges) range place h = outside_last ranges range place h.1

-- A crash may leave after the work whatever it might leave before.
written_keeps : (at : ℕ) (piece : List ℕ) (m : Media) → at ≤ length m.bytes → Images (IsImage (written at piece m)) m
written_keeps at piece m within c image = record {
  no_shorter = image.no_shorter;
  no_longer = let h = image.no_longer in omega arith;
  same = λ place low outside.
      image.same place low (outside_front_of m.touched (at, length piece) place outside)
      ∙ sym (⊎_elim (outside_front at piece m.bytes place within) (outside_back at piece m.bytes place within) (outside_last m.touched (at, length piece) place outside).0);
}

shortened_keeps : (size : ℕ) (m : Media) → Images (IsImage (shortened size m)) m
shortened_keeps size m c image = record {
  no_shorter = let h = image.no_shorter in omega arith;
  no_longer = image.no_longer;
  same = λ place low outside. image.same place (omega arith) outside ∙ sym (get_or-take size m.bytes place 0 (omega arith));
}

pub now_write : (h : List Media) (at : ℕ) (piece : List ℕ) → Now h (λ m. at ≤ length m.bytes) → LeavesNow h (λ c. Now h (λ m. IsImage (written at piece m) c))
now_write [] at piece within = tt
now_write (m ∷ past) at piece within = written_keeps at piece m within

pub now_cut : (h : List Media) (size : ℕ) → LeavesNow h (λ c. Now h (λ m. IsImage (shortened size m) c))
now_cut [] size = tt
now_cut (m ∷ past) size = shortened_keeps size m

pub now_sync : (h : List Media) → LeavesNow h (λ c. Now h (λ m. IsImage m c))
now_sync [] = tt
now_sync (m ∷ past) = λ c image. image

-- a call that did nothing
undone : (T : Type 0) {E : Type 0} (done at_most : Media → Media) (h k : List Media) (e : E) → k ≡ h → LeavesNow h (λ c. Now h (λ m. IsImage (at_most m) c)) → Changes {T = T} done at_most h k (Err e)
undone T done at_most [] k e same keeps = same
undone T done at_most (m ∷ past) k e same keeps = (tt, stays_at (m ∷ past) k (IsImage (at_most m)) same keeps)

pub nothing_done : (T : Type 0) {E : Type 0} (done at_most : Media → Media) (past now : Past) (e : E) → now ≡ past
    → LeavesNow (moments_of past) (λ c. Now (moments_of past) (λ m. IsImage (at_most m) c)) → Changes {T = T} done at_most (moments_of past) (moments_of now) (Err e)
nothing_done T done at_most past now e same keeps = undone T done at_most (moments_of past) (moments_of now) e (ap moments_of same) keeps

-- a call that did its work, or nothing
pub changed : {T E : Type 0} (call : DiskCall) (at_most : Media → Media) (past now : Past) (result : Result T E)
    → OnOk result (now ≡ then_call past call) → OnErr result (now ≡ past)
    → LeavesNow (moments_of past) (λ c. Now (moments_of past) (λ m. IsImage (at_most m) c))
    → Changes (after call) at_most (moments_of past) (moments_of now) result
changed {T} {E} call at_most past now (Ok x) done lost keeps =
    subst (λ (k : List Media). Changes {T = T} {E = E} (after call) at_most (moments_of past) k (Ok x)) (sym (ap moments_of done ∙ moments_of-push past call)) (by_cases (moments_of past))
  where
    by_cases : (h : List Media) → Changes {T = T} {E = E} (after call) at_most h (then_moment call h) (Ok x)
    by_cases [] = refl
    by_cases (m ∷ past) = (refl, tt)
changed {T} {E} call at_most past now (Err e) done lost keeps = nothing_done T (after call) at_most past now e lost keeps

-- such a disk always tells its bytes
told_by : (ms : List Media) (m : Media) (calls : List DiskCall) (k : Media) → Now (called (m ∷ ms) calls) (λ n. n ≡ k) → bytes_now (called (m ∷ ms) calls) ≡ Some k.bytes
told_by ms m [] k is = ap (λ (n : Media). Some n.bytes) is
told_by ms m (call ∷ calls) k is = told_by (m ∷ ms) (after call m) calls k is

pub told : (past : Past) (k : Media) → Now (moments_of past) (λ n. n ≡ k) → bytes_now (moments_of past) ≡ Some k.bytes
told past k is = told_by [] (settled past.first) past.calls k is

pub told_is : (h : List Media) (bytes : List ℕ) (P : List ℕ → Type 0) → bytes_now h ≡ Some bytes → Now h (λ m. P m.bytes) → P bytes
told_is [] bytes P t now = absurd (cc)
told_is (m ∷ past) bytes P t now = let same : m.bytes ≡ bytes = cc in subst P same now
