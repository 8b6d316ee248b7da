-- Opening a disk that a crash may have left.
use Rattle.std.proofs.Common.{◌≡◌, ℕ, ◌≤◌, List, [], ◌∷◌, ◌++◌, length, replicate, refl, sym, ◌∙◌, ap, subst, arith, length-append}
use Rattle.std.specs.Prelude.{Some, None, Result, Ok, Err, OnOk}
use Rattle.std.proofs.lemmas.List.{length-replicate}
use Rattle.mj_disk.specs.ImageLaws.{image_settled}
use Rattle.mj_disk.specs.Media.{Media, IsImage, settled}
use Rattle.mj_disk.specs.Moments.{Now, LeavesNow, LeavesOnly, RestsAt, bytes_now}
use Rattle.mj_disk.specs.MomentLaws.{only_weaker, only_now, leaves_now, stays, goes_on}
use Rattle.mj_log.specs.Journal.{reads, payloads, magic}
use Rattle.mj_log.specs.FrameLaws.{reads_short}
use Rattle.mj_log.specs.Log.{ReadsAs, ReadsAsAt, IsAt}
use Rattle.mj_log.specs.Gate.{IsClosed, IsShort}
use Rattle.mj_log.specs.Places.{ArePlaced, IsJournal, IsWalked}
use Rattle.mj_log.specs.View.{told_of, IsAtRest, ReadsLike, Refuses, Keeps}
use Rattle.mj_log.specs.declared.fault.LogFault.{LogFault}
use Rattle.mj_log.specs.declared.fault.LogFault.TheVariants.{NotAJournal, Damaged, Full, DiskFault, Stopped, Memory}
use Rattle.mj_log.proofs.Placing.{placed_none}
use Rattle.mj_log.proofs.Puts.{same_payloads}

-- each image reads as itself
itself_at : (h : List Media) → LeavesNow h (ReadsAsAt h)
itself_at [] = tt
itself_at (m ∷ past) = λ c i. (c, i, refl)

pub begins_at : (h : List Media) → LeavesOnly h h (ReadsAsAt h)
begins_at h = stays h (ReadsAsAt h) (itself_at h)

pub then_same : (old mid new : List Media) (P : List ℕ → Type 0) → LeavesOnly old mid P → new ≡ mid → LeavesOnly old new P
then_same old mid new P h same = subst (λ (l : List Media). LeavesOnly old l P) (sym same) h

-- all moments of a short file that is written anew read as it did
pub short_likes : (old new : List Media) → Now old (λ m. length m.bytes ≤ 9) → Now old IsAtRest → ((bytes : List ℕ) → length bytes ≤ 9 → RestsAt old bytes → LeavesOnly old new (IsShort 9)) → LeavesOnly old new (ReadsLike old)
short_likes [] new short rests any = only_weaker [] new (IsShort 9) (ReadsLike []) (λ c s. tt) (any [] (omega arith) tt)
short_likes (m ∷ past) new short rests any = only_weaker (m ∷ past) new (IsShort 9) (ReadsLike (m ∷ past)) (λ c s. reads_short c s ∙ sym (reads_short m.bytes short)) (any m.bytes short rests)

fresh_journal : (h : List Media) → RestsAt h (magic ++ 0 ∷ []) → Now h (IsJournal [] 8)
fresh_journal [] rests = tt
fresh_journal (m ∷ past) rests = record { front = magic; payloads_are = []; placed = placed_none; rests = rests }

pub short_journal : (old new : List Media) → Now old (λ m. length m.bytes ≤ 9) → Now old IsAtRest → ((bytes : List ℕ) → length bytes ≤ 9 → RestsAt old bytes → RestsAt new (magic ++ 0 ∷ [])) → Now new (IsJournal [] 8)
short_journal [] new short rests done = fresh_journal new (done [] (omega arith) tt)
short_journal (m ∷ past) new short rests done = fresh_journal new (done m.bytes short rests)

-- all moments of a file that is cut behind its closed gate read as it did
module _ (old new : List Media) (places : List ℕ) (end : ℕ) where
  pub closed_likes : Now old (λ m. IsWalked places end m.bytes) → Now old IsAtRest → ((front junk : List ℕ) → length front ≡ end → RestsAt old (front ++ 0 ∷ junk) → LeavesOnly old new (IsClosed front)) → LeavesOnly old new (ReadsLike old)
  closed_likes = by_cases old
    where
      by_cases : (h : List Media) → Now h (λ m. IsWalked places end m.bytes) → Now h IsAtRest → ((front junk : List ℕ) → length front ≡ end → RestsAt h (front ++ 0 ∷ junk) → LeavesOnly h new (IsClosed front)) → LeavesOnly h new (ReadsLike h)
      by_cases [] walked rests any = only_weaker [] new (IsClosed (replicate end 0)) (ReadsLike []) (λ c k. tt) (any (replicate end 0) [] (length-replicate end 0) tt)
      by_cases (m ∷ past) w rests any = only_weaker (m ∷ past) new (IsClosed w.front) (ReadsLike (m ∷ past))
          (λ c k. ap payloads k.1 ∙ w.placed.leads.closed k.0 ∙ sym (ap payloads w.whole ∙ w.placed.leads.closed w.junk))
          (any w.front w.junk w.placed.size (rests ∙ ap settled w.whole))

  closed_journal_now : (h : List Media) (front : List ℕ) (ps : List (List ℕ)) → ArePlaced places end ps front → RestsAt h (front ++ 0 ∷ []) → Now h (IsJournal places end)
  closed_journal_now [] front ps placed rests = tt
  closed_journal_now (n ∷ later) front ps placed rests = record { front = front; payloads_are = ps; placed = placed; rests = rests }

  pub closed_journal : Now old (λ m. IsWalked places end m.bytes) → Now old IsAtRest → ((front junk : List ℕ) → length front ≡ end → RestsAt old (front ++ 0 ∷ junk) → LeavesOnly old new (IsClosed front))
      → ((front junk : List ℕ) → length front ≡ end → RestsAt old (front ++ 0 ∷ junk) → RestsAt new (front ++ 0 ∷ [])) → Now new (IsJournal places end)
  closed_journal = by_cases old new
    where
      by_cases : (h k : List Media) → Now h (λ m. IsWalked places end m.bytes) → Now h IsAtRest → ((front junk : List ℕ) → length front ≡ end → RestsAt h (front ++ 0 ∷ junk) → LeavesOnly h k (IsClosed front))
          → ((front junk : List ℕ) → length front ≡ end → RestsAt h (front ++ 0 ∷ junk) → RestsAt k (front ++ 0 ∷ [])) → Now k (IsJournal places end)
      by_cases h [] walked rests any done = tt
      by_cases [] (n ∷ later) walked rests any done = let none : n ∷ later ≡ [] = (any (replicate end 0) [] (length-replicate end 0) tt).tells refl in absurd (cc)
      by_cases (m ∷ past) (n ∷ later) w rests any done = closed_journal_now (n ∷ later) w.front w.payloads_are w.placed (done w.front w.junk w.placed.size (rests ∙ ap settled w.whole))

-- nothing was written
pub likes_itself : (h : List Media) → Now h IsAtRest → LeavesOnly h h (ReadsLike h)
likes_itself h rests = stays h (ReadsLike h) (itself h rests)
  where
    itself : (k : List Media) → Now k IsAtRest → LeavesNow k (ReadsLike k)
    itself [] rests = tt
    itself (m ∷ past) rests = λ c i. ap payloads (image_settled m.bytes c (subst (λ (n : Media). IsImage n c) rests i))

pub keeps_same : (e : LogFault) (old new : List Media) → bytes_now new ≡ bytes_now old → Keeps e old new
keeps_same NotAJournal old new same = same
keeps_same (Damaged n) old new same = same
keeps_same (Full end need) old new same = tt
keeps_same (DiskFault n) old new same = tt
keeps_same (Stopped n) old new same = tt
keeps_same Memory old new same = tt

likes_at : (h0 h1 : List Media) → bytes_now h1 ≡ bytes_now h0 → Now h0 (λ m. IsImage m m.bytes) → (c : List ℕ) → ReadsLike h1 c → ReadsAsAt h0 c
likes_at [] h1 same itself c like = tt
likes_at (m ∷ past) [] same itself c like = absurd (cc)
likes_at (m ∷ past) (n ∷ later) same itself c like = let is : n.bytes ≡ m.bytes = cc in (m.bytes, itself, like ∙ ap payloads is)

pub loaded : (h0 h1 h2 : List Media) → bytes_now h1 ≡ bytes_now h0 → Now h0 (λ m. IsImage m m.bytes) → LeavesOnly h0 h1 (ReadsAsAt h0) → LeavesOnly h1 h2 (ReadsLike h1) → LeavesOnly h0 h2 (ReadsAsAt h0)
loaded h0 h1 h2 same itself one two = goes_on h0 h1 h2 (ReadsAsAt h0) one (only_weaker h1 h2 (ReadsLike h1) (ReadsAsAt h0) (likes_at h0 h1 same itself) two)

pub same_reading : {T E : Type 0} (r : Result T E) (h0 h1 h2 : List Media) → bytes_now h1 ≡ bytes_now h0 → LeavesOnly h1 h2 (ReadsLike h1) → Now h2 (λ n. IsImage n n.bytes) → OnOk r (Now h0 (λ m. Now h2 (λ n. payloads n.bytes ≡ payloads m.bytes)))
same_reading (Err e) h0 h1 h2 same two itself = tt
same_reading (Ok x) h0 h1 h2 same two itself = by_cases h0 h1 h2 same (only_now h1 h2 (ReadsLike h1) two) itself
  where
    by_cases : (h j k : List Media) → bytes_now j ≡ bytes_now h → LeavesNow k (ReadsLike j) → Now k (λ n. IsImage n n.bytes) → Now h (λ m. Now k (λ n. payloads n.bytes ≡ payloads m.bytes))
    by_cases [] j k same now itself = tt
    by_cases (m ∷ past) j [] same now itself = tt
    by_cases (m ∷ past) [] (n ∷ later) same now itself = absurd (cc)
    by_cases (m ∷ past) (l ∷ more) (n ∷ later) same now itself = let is : l.bytes ≡ m.bytes = cc in now n.bytes itself ∙ ap payloads is

-- a refusal of the file as it reads after the sync is one of the file as it read before
pub refused_at : (e : LogFault) (h0 h1 : List Media) → bytes_now h1 ≡ bytes_now h0 → Now h1 (λ m. Refuses e (payloads m.bytes)) → Now h0 (λ m. Refuses e (payloads m.bytes))
refused_at e [] h1 same now = tt
refused_at e (m ∷ past) [] same now = absurd (cc)
refused_at e (m ∷ past) (n ∷ later) same now = let is : n.bytes ≡ m.bytes = cc in subst (λ (l : List ℕ). Refuses e (payloads l)) is now

pub keeps_on : (e : LogFault) (h0 h1 h2 : List Media) → bytes_now h1 ≡ bytes_now h0 → Keeps e h1 h2 → Keeps e h0 h2
keeps_on NotAJournal h0 h1 h2 same kept = kept ∙ same
keeps_on (Damaged n) h0 h1 h2 same kept = kept ∙ same
keeps_on (Full end need) h0 h1 h2 same kept = tt
keeps_on (DiskFault n) h0 h1 h2 same kept = tt
keeps_on (Stopped n) h0 h1 h2 same kept = tt
keeps_on Memory h0 h1 h2 same kept = tt

pub opened_at : (h0 h1 : List Media) (places : List ℕ) (end : ℕ) (P : List ℕ → Type 0) → LeavesOnly h0 h1 P → Now h0 (λ m. Now h1 (λ n. payloads n.bytes ≡ payloads m.bytes)) → Now h1 (IsJournal places end)
    → (bytes : List ℕ) → bytes_now h0 ≡ Some bytes → (ps : List (List ℕ)) × ReadsAs ps bytes × IsAt (told_of h1 (length places)) None h1 ps
opened_at [] h1 places end P on same journal bytes told = absurd (cc)
opened_at (m ∷ past) [] places end P on same journal bytes told = absurd (omega (arith, ap length on.goes_on, length-append on.passed (m ∷ past)))
opened_at (m ∷ past) (n ∷ later) places end P on same j bytes told =
    let is : m.bytes ≡ bytes = cc in
    let reading : payloads n.bytes ≡ reads j.payloads_are = ap (λ (k : Media). payloads k.bytes) j.rests ∙ j.placed.leads.closed [] in (
      j.payloads_are,
      sym (same ∙ ap payloads is) ∙ reading,
      record {
        has = ap (λ (l : List (List ℕ)). Some l) (same_payloads places end n j);
        open_yet = refl;
        durable = leaves_now (ReadsAs j.payloads_are) (n ∷ later) (j.front ++ 0 ∷ []) j.rests (j.placed.leads.closed []);
      },
    )
