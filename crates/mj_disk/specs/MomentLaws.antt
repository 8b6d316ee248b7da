-- How what a crash may leave goes on from call to call.
use Rattle.std.specs.Prelude.{◌≡◌, ℕ, suc, ◌+◌, ◌-◌, length, take, List, [], ◌∷◌, ◌++◌, Result, Ok, Err, refl}
use Rattle.std.proofs.Common.{inl, inr, sym, ◌∙◌, ap, subst, append_assoc, length-append, arith}
use Rattle.mj_disk.specs.Media.{Media, IsImage, synced, settled}
use Rattle.mj_disk.specs.ImageLaws.{image_settled}
use Rattle.mj_disk.specs.Moments.{Now, Images, LeavesNow, AllImages, LeavesOnly, AnyImage, LeftSince, Changes}

pub images_weaker : (P Q : List ℕ → Type 0) → ((c : List ℕ) → P c → Q c) → (ms : List Media) → AllImages P ms → AllImages Q ms
images_weaker P Q f [] h = tt
images_weaker P Q f (m ∷ ms) h = (λ c i. f c (h.0 c i), images_weaker P Q f ms h.1)

pub images_append : (P : List ℕ → Type 0) (ms ns : List Media) → AllImages P ms → AllImages P ns → AllImages P (ms ++ ns)
images_append P [] ns h k = k
images_append P (m ∷ ms) ns h k = (h.0, images_append P ms ns h.1 k)

pub now_weaker : (P Q : List ℕ → Type 0) → ((c : List ℕ) → P c → Q c) → (h : List Media) → LeavesNow h P → LeavesNow h Q
now_weaker P Q f [] h = tt
now_weaker P Q f (m ∷ past) h = λ c i. f c (h c i)

-- no moment has passed
pub stays : (h : List Media) (P : List ℕ → Type 0) → LeavesNow h P → LeavesOnly h h P
stays h P now = record { passed = []; goes_on = refl; tells = λ e. e; first = now; each = tt }

-- the same, where what the disk tells hasn't changed
pub stays_at : (h k : List Media) (P : List ℕ → Type 0) → k ≡ h → LeavesNow h P → LeavesOnly h k P
stays_at h k P e now = record { passed = []; goes_on = e; tells = λ none. e ∙ none; first = now; each = tt }

pub only_weaker : (old new : List Media) (P Q : List ℕ → Type 0) → ((c : List ℕ) → P c → Q c) → LeavesOnly old new P → LeavesOnly old new Q
only_weaker old new P Q f h = record {
  passed = h.passed;
  goes_on = h.goes_on;
  tells = h.tells;
  first = now_weaker P Q f old h.first;
  each = images_weaker P Q f h.passed h.each;
}

-- one stretch after the other
pub goes_on : (old mid new : List Media) (P : List ℕ → Type 0) → LeavesOnly old mid P → LeavesOnly mid new P → LeavesOnly old new P
goes_on old mid new P h k = record {
  passed = k.passed ++ h.passed;
  goes_on = k.goes_on ∙ ap (λ (l : List Media). k.passed ++ l) h.goes_on ∙ sym (append_assoc k.passed h.passed old);
  tells = λ e. k.tells (h.tells e);
  first = h.first;
  each = images_append P k.passed h.passed k.each h.each;
}

head_of : (P : List ℕ → Type 0) (ms old : List Media) → LeavesNow old P → AllImages P ms → LeavesNow (ms ++ old) P
head_of P [] old first h = first
head_of P (m ∷ ms) old first h = h.0

-- at its end too
pub only_now : (old new : List Media) (P : List ℕ → Type 0) → LeavesOnly old new P → LeavesNow new P
only_now old new P h = subst (λ (l : List Media). LeavesNow l P) (sym h.goes_on) (head_of P h.passed old h.first h.each)

-- one moment more
pub one_more : (m n : Media) (past new : List Media) (P : List ℕ → Type 0) → new ≡ n ∷ m ∷ past → Images P m → Images P n → LeavesOnly (m ∷ past) new P
one_more m n past new P e was is = record {
  passed = n ∷ [];
  goes_on = e;
  tells = λ none. subst (λ (l : List Media). l ≡ []) (sym e) (cc);
  first = was;
  each = (is, tt);
}

any_of : (P : List ℕ → Type 0) (ms old : List Media) → LeavesNow old P → AllImages P ms → (c : List ℕ) → AnyImage (take (suc (length ms)) (ms ++ old)) c → P c
any_of P [] [] first each c any = absurd any
any_of P [] (m ∷ past) first each c (inl is) = first c is
any_of P [] (m ∷ past) first each c (inr none) = absurd none
any_of P (m ∷ ms) old first each c (inl is) = each.0 c is
any_of P (m ∷ ms) old first each c (inr more) = any_of P ms old first each.1 c more

-- so each image since old has P
pub left_since : (old new : List Media) (P : List ℕ → Type 0) → LeavesOnly old new P → (c : List ℕ) → LeftSince old new c → P c
left_since old new P h c left =
    let count : length new - length old + 1 ≡ suc (length h.passed) = omega (arith, ap length h.goes_on, length-append h.passed old) in
    any_of P h.passed old h.first h.each c
    (subst (λ (n : ℕ). AnyImage (take n (h.passed ++ old)) c) count
    (subst (λ (l : List Media). AnyImage (take (length new - length old + 1) l) c) h.goes_on left))

-- ---- one call more

images_at : (P : List ℕ → Type 0) (m : Media) (old new : List Media) → LeavesOnly old new (IsImage m) → Images P m → LeavesOnly old new P
images_at P m old new h f = only_weaker old new (IsImage m) P f h

changed_on : {T E : Type 0} (done at_most : Media → Media) (mid new : List Media) (result : Result T E) (P : List ℕ → Type 0)
    → Changes done at_most mid new result → LeavesNow mid P → Now mid (λ m. Images P (done m)) → Now mid (λ m. Images P (at_most m)) → LeavesOnly mid new P
changed_on done at_most [] new result P change now after most = stays_at [] new P change tt
changed_on done at_most (m ∷ past) new (Ok x) P change now after most = one_more m (done m) past new P change.0 now after
changed_on done at_most (m ∷ past) new (Err e) P change now after most = images_at P (at_most m) (m ∷ past) new change.1 most

-- a write or a cut
pub on_change : {T E : Type 0} (work : Media → Media) (old mid new : List Media) (result : Result T E) (P : List ℕ → Type 0)
    → LeavesOnly old mid P → Changes work work mid new result → Now mid (λ m. Images P (work m)) → LeavesOnly old new P
on_change work old mid new result P so_far change after =
    goes_on old mid new P so_far (changed_on work work mid new result P change (only_now old mid P so_far) after after)

synced_images : (P : List ℕ → Type 0) (h : List Media) → LeavesNow h P → Now h (λ m. IsImage m m.bytes) → Now h (λ m. Images P (synced m))
synced_images P [] now itself = tt
synced_images P (m ∷ past) now itself = λ c i. subst P (sym (image_settled m.bytes c i)) (now m.bytes itself)

-- a sync
pub on_sync : {T E : Type 0} (old mid new : List Media) (result : Result T E) (P : List ℕ → Type 0)
    → LeavesOnly old mid P → Changes synced (λ (m : Media). m) mid new result → Now mid (λ m. IsImage m m.bytes) → LeavesOnly old new P
on_sync old mid new result P so_far change itself =
    let now = only_now old mid P so_far in
    goes_on old mid new P so_far (changed_on synced (λ (m : Media). m) mid new result P change now (synced_images P mid now itself) now)

-- what the disk is after a call that was done
pub now_done : (T E : Type 0) (done at_most : Media → Media) (mid new : List Media) (x : T) (k : Media)
    → Changes {T = T} {E = E} done at_most mid new (Ok x) → Now mid (λ m. m ≡ k) → Now new (λ m. m ≡ done k)
now_done T E done at_most [] new x k change now = subst (λ (l : List Media). Now l (λ m. m ≡ done k)) (sym change) tt
now_done T E done at_most (m ∷ past) new x k change now = subst (λ (l : List Media). Now l (λ m. m ≡ done k)) (sym change.0) (ap done now)

pub images_now : (P : List ℕ → Type 0) (work : Media → Media) (h : List Media) (k : Media) → Now h (λ m. m ≡ k) → Images P (work k) → Now h (λ m. Images P (work m))
images_now P work [] k now f = tt
images_now P work (m ∷ past) k now f = subst (λ (n : Media). Images P (work n)) (sym now) f

pub leaves_now : (P : List ℕ → Type 0) (h : List Media) (bytes : List ℕ) → Now h (λ m. m ≡ settled bytes) → P bytes → LeavesNow h P
leaves_now P [] bytes now p = tt
leaves_now P (m ∷ past) bytes now p = λ c i. subst P (sym (image_settled bytes c (subst (λ (n : Media). IsImage n c) now i))) p

pub now_through : (T E : Type 0) (done at_most : Media → Media) (mid new : List Media) (x : T) (P Q : Media → Type 0)
    → Changes {T = T} {E = E} done at_most mid new (Ok x) → Now mid P → ((m : Media) → P m → Q (done m)) → Now new Q
now_through T E done at_most [] new x P Q change now f = subst (λ (l : List Media). Now l Q) (sym change) tt
now_through T E done at_most (m ∷ past) new x P Q change now f = subst (λ (l : List Media). Now l Q) (sym change.0) (f m now)
