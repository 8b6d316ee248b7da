-- The four calls that put bytes behind a gate, one lemma each, and what the disk is after each that was done.
use Rattle.std.proofs.Common.{◌≡◌, inl, inr, ℕ, ◌+◌, ◌≤◌, List, [], ◌∷◌, ◌++◌, length, take, drop, get_or, refl, sym, ◌∙◌, ap, subst, arith, append_assoc, length-append, take-append-drop}
use Rattle.std.specs.Prelude.{Result, Ok, Err, OnOk}
use Rattle.std.proofs.lemmas.List.{take_at, drop_at, drop_more, take_all, drop_all, append-nil}
use Rattle.std.proofs.lemmas.List.{ext_get_or, get_or-take, length-take-le}
use Rattle.mj_disk.specs.Media.{Media, IsImage, overwritten, written, shortened, synced, settled}
use Rattle.mj_disk.specs.ImageLaws.{Torn, image_written}
use Rattle.mj_disk.specs.Moments.{LeavesOnly, RestsAt, Changes}
use Rattle.mj_disk.specs.MomentLaws.{stays, leaves_now, on_change, now_done, images_now}
use Rattle.mj_log.specs.Gate.{IsGated, IsClosed, IsShort}

module _ (front tail : List ℕ) (end : ℕ) (size : length front ≡ end) where
  rest_size : length (front ++ 0 ∷ []) ≡ end + 1
  rest_size = omega (arith, length-append front (0 ∷ []))

  -- the closed gate stands whatever the first write leaves
  torn_behind : (n : ℕ) (c : List ℕ) → Torn (end + 1) n (front ++ 0 ∷ []) c → IsGated front tail c
  torn_behind n c torn =
      let whole : take (end + 1) c ≡ front ++ 0 ∷ [] = torn.before ∙ take_all (end + 1) (front ++ 0 ∷ []) (omega (arith, rest_size)) in
      inl (drop (end + 1) c, sym (take-append-drop (end + 1) c) ∙ ap (λ (l : List ℕ). l ++ drop (end + 1) c) whole ∙ append_assoc front (0 ∷ []) (drop (end + 1) c))

  -- the tail stands whatever the second write leaves
  torn_gate : (c : List ℕ) → Torn end 1 (front ++ 0 ∷ tail) c → IsGated front tail c
  torn_gate c torn =
      let long : length (front ++ 0 ∷ tail) ≡ end + 1 + length tail = omega (arith, length-append front (0 ∷ tail)) in
      let gate = get_or c end 0 in
      let before : take end c ≡ front = torn.before ∙ take_at front (0 ∷ tail) end size in
      let split : front ++ 0 ∷ tail ≡ (front ++ 0 ∷ []) ++ tail = sym (append_assoc front (0 ∷ []) tail) in
      let after : drop (end + 1) c ≡ tail = torn.after ∙ ap (λ (l : List ℕ). drop (end + 1) l) split ∙ drop_at (front ++ 0 ∷ []) tail (end + 1) rest_size in
      let rest : drop end c ≡ gate ∷ tail = drop_more c end 0 (omega (arith, torn.no_shorter)) ∙ ap (λ (l : List ℕ). gate ∷ l) after in
      inr (gate, sym (take-append-drop end c) ∙ ap (λ (l : List ℕ). l ++ drop end c) before ∙ ap (λ (l : List ℕ). front ++ l) rest)

  put : overwritten (end + 1) tail (front ++ 0 ∷ []) ≡ front ++ 0 ∷ tail
  put = ap (λ (l : List ℕ). l ++ tail ++ drop (end + 1 + length tail) (front ++ 0 ∷ [])) (take_all (end + 1) (front ++ 0 ∷ []) (omega (arith, rest_size)))
      ∙ ap (λ (l : List ℕ). (front ++ 0 ∷ []) ++ tail ++ l) (drop_all (end + 1 + length tail) (front ++ 0 ∷ []) (omega (arith, rest_size)))
      ∙ append-nil ((front ++ 0 ∷ []) ++ tail)
      ∙ append_assoc front (0 ∷ []) tail

  opened : overwritten end (1 ∷ []) (front ++ 0 ∷ tail) ≡ front ++ 1 ∷ tail
  opened =
      let split : front ++ 0 ∷ tail ≡ (front ++ 0 ∷ []) ++ tail = sym (append_assoc front (0 ∷ []) tail) in
      ap (λ (l : List ℕ). l ++ (1 ∷ []) ++ drop (end + 1) (front ++ 0 ∷ tail)) (take_at front (0 ∷ tail) end size)
      ∙ ap (λ (l : List ℕ). front ++ (1 ∷ []) ++ l) (ap (λ (l : List ℕ). drop (end + 1) l) split ∙ drop_at (front ++ 0 ∷ []) tail (end + 1) rest_size)
      ∙ append_assoc front (1 ∷ []) tail

  module _ (h0 : List Media) (rests : RestsAt h0 (front ++ 0 ∷ [])) where
    pub wrote : {T E : Type 0} (h1 : List Media) (r : Result T E) → Changes (written (end + 1) tail) (written (end + 1) tail) h0 h1 r → LeavesOnly h0 h1 (IsGated front tail)
    wrote h1 r change = on_change (written (end + 1) tail) h0 h0 h1 r (IsGated front tail)
        (stays h0 (IsGated front tail) (leaves_now (IsGated front tail) h0 (front ++ 0 ∷ []) rests (inl ([], refl))))
        change
        (images_now (IsGated front tail) (written (end + 1) tail) h0 (settled (front ++ 0 ∷ [])) rests
        (λ c i. torn_behind (length tail) c (image_written (end + 1) tail (front ++ 0 ∷ []) c (omega (arith, rest_size)) i)))

    -- the tail is on the disk, behind the closed gate
    pub staged : (T E T' E' : Type 0) (h1 h2 : List Media) (x : T) (y : T') → Changes {T = T} {E = E} (written (end + 1) tail) (written (end + 1) tail) h0 h1 (Ok x)
        → Changes {T = T'} {E = E'} synced (λ (m : Media). m) h1 h2 (Ok y) → RestsAt h2 (front ++ 0 ∷ tail)
    staged T E T' E' h1 h2 x y change sync =
        subst (RestsAt h2) put (now_done T' E' synced (λ (m : Media). m) h1 h2 y (written (end + 1) tail (settled (front ++ 0 ∷ []))) sync
        (now_done T E (written (end + 1) tail) (written (end + 1) tail) h0 h1 x (settled (front ++ 0 ∷ [])) change rests))

    pub gated : {T E : Type 0} (h2 h3 : List Media) (r : Result T E) → LeavesOnly h0 h2 (IsGated front tail) → RestsAt h2 (front ++ 0 ∷ tail)
        → Changes (written end (1 ∷ [])) (written end (1 ∷ [])) h2 h3 r → LeavesOnly h0 h3 (IsGated front tail)
    gated h2 h3 r so_far at change = on_change (written end (1 ∷ [])) h0 h2 h3 r (IsGated front tail) so_far change
        (images_now (IsGated front tail) (written end (1 ∷ [])) h2 (settled (front ++ 0 ∷ tail)) at
        (λ c i. torn_gate c (image_written end (1 ∷ []) (front ++ 0 ∷ tail) c (omega (arith, length-append front (0 ∷ tail))) i)))

    pub done : {T' E' : Type 0} (T E : Type 0) (h2 h3 h4 : List Media) (x : T) (r : Result T' E') → RestsAt h2 (front ++ 0 ∷ tail) → Changes {T = T} {E = E} (written end (1 ∷ [])) (written end (1 ∷ [])) h2 h3 (Ok x)
        → Changes synced (λ (m : Media). m) h3 h4 r → OnOk r (RestsAt h4 (front ++ 1 ∷ tail))
    done {T'} {E'} T E h2 h3 h4 x (Ok y) at change sync =
        subst (RestsAt h4) opened (now_done T' E' synced (λ (m : Media). m) h3 h4 y (written end (1 ∷ []) (settled (front ++ 0 ∷ tail))) sync
        (now_done T E (written end (1 ∷ [])) (written end (1 ∷ [])) h2 h3 x (settled (front ++ 0 ∷ tail)) change at))
    done T E h2 h3 h4 x (Err e) at change sync = tt

-- ---- the cut behind a gate

module _ (front junk : List ℕ) (end : ℕ) (size : length front ≡ end) where
  whole_size : length (front ++ 0 ∷ junk) ≡ end + 1 + length junk
  whole_size = omega (arith, length-append front (0 ∷ junk))

  cut_split : front ++ 0 ∷ junk ≡ (front ++ 0 ∷ []) ++ junk
  cut_split = sym (append_assoc front (0 ∷ []) junk)

  cut_front : take (end + 1) (front ++ 0 ∷ junk) ≡ front ++ 0 ∷ []
  cut_front = ap (λ (l : List ℕ). take (end + 1) l) cut_split ∙ take_at (front ++ 0 ∷ []) junk (end + 1) (omega (arith, length-append front (0 ∷ [])))

  image_cut : (c : List ℕ) → IsImage (shortened (end + 1) (settled (front ++ 0 ∷ junk))) c → IsClosed front c
  image_cut c i =
      let least = i.no_shorter in
      let long : end + 1 ≤ length c = omega (arith, whole_size) in
      let cs : length (take (end + 1) c) ≡ end + 1 = length-take-le (end + 1) c long in
      let os : length (front ++ 0 ∷ []) ≡ end + 1 = omega (arith, length-append front (0 ∷ [])) in
      let before : take (end + 1) c ≡ front ++ 0 ∷ [] = ext_get_or 0 (take (end + 1) c) (front ++ 0 ∷ []) (omega arith) (λ k low.
      get_or-take (end + 1) c k 0 (omega arith) ∙ i.same k (omega (arith, whole_size)) tt ∙ ap (λ (l : List ℕ). get_or l k 0) cut_front) in
      (drop (end + 1) c, sym (take-append-drop (end + 1) c) ∙ ap (λ (l : List ℕ). l ++ drop (end + 1) c) before ∙ append_assoc front (0 ∷ []) (drop (end + 1) c))

  module _ (h0 : List Media) (rests : RestsAt h0 (front ++ 0 ∷ junk)) where
    pub closing : {T E : Type 0} (h1 : List Media) (r : Result T E) → Changes (shortened (end + 1)) (shortened (end + 1)) h0 h1 r → LeavesOnly h0 h1 (IsClosed front)
    closing h1 r change = on_change (shortened (end + 1)) h0 h0 h1 r (IsClosed front)
        (stays h0 (IsClosed front) (leaves_now (IsClosed front) h0 (front ++ 0 ∷ junk) rests (junk, refl)))
        change
        (images_now (IsClosed front) (shortened (end + 1)) h0 (settled (front ++ 0 ∷ junk)) rests image_cut)

    pub closed : {T' E' : Type 0} (T E : Type 0) (h1 h2 : List Media) (x : T) (r : Result T' E') → Changes {T = T} {E = E} (shortened (end + 1)) (shortened (end + 1)) h0 h1 (Ok x)
        → Changes synced (λ (m : Media). m) h1 h2 r → OnOk r (RestsAt h2 (front ++ 0 ∷ []))
    closed {T'} {E'} T E h1 h2 x (Ok y) change sync =
        subst (RestsAt h2) cut_front (now_done T' E' synced (λ (m : Media). m) h1 h2 y (shortened (end + 1) (settled (front ++ 0 ∷ junk))) sync
        (now_done T E (shortened (end + 1)) (shortened (end + 1)) h0 h1 x (settled (front ++ 0 ∷ junk)) change rests))
    closed T E h1 h2 x (Err e) change sync = tt

-- ---- a short file written anew

module _ (old bytes : List ℕ) (short : length old ≤ length bytes) where
  anew : overwritten 0 bytes old ≡ bytes
  anew = ap (λ (l : List ℕ). bytes ++ l) (drop_all (0 + length bytes) old (omega arith)) ∙ append-nil bytes

  image_anew : (c : List ℕ) → IsImage (written 0 bytes (settled old)) c → IsShort (length bytes) c
  image_anew c i = let most = i.no_longer in omega arith

  module _ (h0 : List Media) (rests : RestsAt h0 old) where
    pub renewing : {T E : Type 0} (h1 : List Media) (r : Result T E) → Changes (written 0 bytes) (written 0 bytes) h0 h1 r → LeavesOnly h0 h1 (IsShort (length bytes))
    renewing h1 r change = on_change (written 0 bytes) h0 h0 h1 r (IsShort (length bytes))
        (stays h0 (IsShort (length bytes)) (leaves_now (IsShort (length bytes)) h0 old rests short))
        change
        (images_now (IsShort (length bytes)) (written 0 bytes) h0 (settled old) rests image_anew)

    pub renewed : {T' E' : Type 0} (T E : Type 0) (h1 h2 : List Media) (x : T) (r : Result T' E') → Changes {T = T} {E = E} (written 0 bytes) (written 0 bytes) h0 h1 (Ok x)
        → Changes synced (λ (m : Media). m) h1 h2 r → OnOk r (RestsAt h2 bytes)
    renewed {T'} {E'} T E h1 h2 x (Ok y) change sync =
        subst (RestsAt h2) anew (now_done T' E' synced (λ (m : Media). m) h1 h2 y (written 0 bytes (settled old)) sync
        (now_done T E (written 0 bytes) (written 0 bytes) h0 h1 x (settled old) change rests))
    renewed T E h1 h2 x (Err e) change sync = tt
