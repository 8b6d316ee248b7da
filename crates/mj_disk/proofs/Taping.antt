-- The last moment of a disk in memory after one call more.
use Rattle.std.proofs.Common.{◌≡◌, ℕ, ◌+◌, ◌≤◌, min, max, List, [], ◌∷◌, ◌++◌, length, take, drop, refl, sym, ◌∙◌, ap, subst, arith, length-append}
use Rattle.std.proofs.lemmas.List.{drop-append-le, drop_all, append-nil}
use Rattle.mj_disk.specs.declared.tape.DiskCall.{DiskCall}
use Rattle.mj_disk.specs.declared.tape.DiskCall.TheVariants.{Write, Cut, Sync}
use Rattle.mj_disk.specs.Media.{Media, overwritten}
use Rattle.mj_disk.specs.Moments.{Now}
use Rattle.mj_disk.specs.Past.{after, then_moment, moments_of, moments_of-push}
use Rattle.mj_disk.specs.Tape.{ranges, IsTaped}

media_is : (b b' : List ℕ) (l l' g g' : ℕ) (t t' : List (ℕ × ℕ)) → b ≡ b' → l ≡ l' → g ≡ g' → t ≡ t'
    → ◌≡◌ {A = Media} (record { bytes = b; least = l; greatest = g; touched = t }) (record { bytes = b'; least = l'; greatest = g'; touched = t' })
media_is b b' l l' g g' t t' p q r s = λ i. record { bytes = p i; least = q i; greatest = r i; touched = s i }

ranges-append : (calls more : List DiskCall) → ranges (calls ++ more) ≡ ranges calls ++ ranges more
ranges-append [] more = refl
ranges-append (Write at bytes ∷ calls) more = ap (λ (l : List (ℕ × ℕ)). (at, length bytes) ∷ l) (ranges-append calls more)
ranges-append (Cut size ∷ calls) more = ranges-append calls more
ranges-append (Sync ∷ calls) more = ranges-append calls more

moved : (ms : List Media) (call : DiskCall) (k n : Media) → Now ms (λ m. m ≡ k) → after call k ≡ n → Now (then_moment call ms) (λ m. m ≡ n)
moved [] call k n now e = tt
moved (m ∷ ms) call k n now e = ap (λ (x : Media). after call x) now ∙ e

module _ (first bytes : List ℕ) (calls : List DiskCall) (synced least greatest : ℕ) (was : IsTaped first calls bytes synced least greatest) where
  -- the ranges that were written since the last sync, with one call more
  more_ranges : (call : DiskCall) → ranges (drop synced calls) ++ ranges (call ∷ []) ≡ ranges (drop synced (calls ++ call ∷ []))
  more_ranges call = sym (ap ranges (drop-append-le synced calls (call ∷ []) was.made) ∙ ranges-append (drop synced calls) (call ∷ []))

  taped : (call : DiskCall) (calls' : List DiskCall) (bytes' : List ℕ) (synced' least' greatest' : ℕ) → calls' ≡ calls ++ call ∷ []
      → after call (record { bytes = bytes; least = least; greatest = greatest; touched = ranges (drop synced calls) }) ≡ record { bytes = bytes'; least = least'; greatest = greatest'; touched = ranges (drop synced' (calls ++ call ∷ [])) }
      → synced' ≤ length calls + 1 → IsTaped first calls' bytes' synced' least' greatest'
  taped call calls' bytes' synced' least' greatest' more is made =
      subst (λ (l : List DiskCall). IsTaped first l bytes' synced' least' greatest') (sym more) (record {
        last = subst (λ (l : List Media). Now l (λ m. m ≡ record { bytes = bytes'; least = least'; greatest = greatest'; touched = ranges (drop synced' (calls ++ call ∷ [])) })) (sym (moments_of-push (record { first = first; calls = calls }) call))
            (moved (moments_of (record { first = first; calls = calls })) call _ _ was.last is);
        made = omega (arith, length-append calls (call ∷ []));
      })

  pub taped_write : (at : ℕ) (piece bytes' : List ℕ) (calls' : List DiskCall) (greatest' : ℕ) → calls' ≡ calls ++ Write at piece ∷ [] → bytes' ≡ overwritten at piece bytes → greatest' ≡ max greatest (at + length piece)
      → IsTaped first calls' bytes' synced least greatest'
  taped_write at piece bytes' calls' greatest' more is most =
      let made = was.made in
      taped (Write at piece) calls' bytes' synced least greatest' more
      (media_is _ _ _ _ _ _ _ _ (sym is) refl (sym most) (more_ranges (Write at piece)))
      (omega arith)

  pub taped_cut : (size : ℕ) (bytes' : List ℕ) (calls' : List DiskCall) (least' : ℕ) → calls' ≡ calls ++ Cut size ∷ [] → bytes' ≡ take size bytes → least' ≡ min least size
      → IsTaped first calls' bytes' synced least' greatest
  taped_cut size bytes' calls' least' more is less =
      let made = was.made in
      taped (Cut size) calls' bytes' synced least' greatest more
      (media_is _ _ _ _ _ _ _ _ (sym is) (sym less) refl (sym (append-nil (ranges (drop synced calls))) ∙ more_ranges (Cut size)))
      (omega arith)

  pub taped_sync : (calls' : List DiskCall) (synced' size : ℕ) → calls' ≡ calls ++ Sync ∷ [] → synced' ≡ length calls' → size ≡ length bytes
      → IsTaped first calls' bytes synced' size size
  taped_sync calls' synced' size more all is =
      let long : length calls' ≡ length calls + 1 = ap (λ (l : List DiskCall). length l) more ∙ length-append calls (Sync ∷ []) in
      let none : drop synced' (calls ++ Sync ∷ []) ≡ [] = drop_all synced' (calls ++ Sync ∷ []) (omega (arith, length-append calls (Sync ∷ []))) in
      taped Sync calls' bytes synced' size size more
      (media_is _ _ _ _ _ _ _ _ refl (sym is) (sym is) (sym (ap ranges none)))
      (omega arith)
