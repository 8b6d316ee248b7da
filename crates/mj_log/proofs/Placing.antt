-- The places of the payloads as the file grows.
use Rattle.std.proofs.Common.{◌≡◌, ◌⊎◌, ⊎_elim, ℕ, zero, suc, ◌+◌, ◌<◌, ◌≤◌, List, [], ◌∷◌, ◌++◌, length, take, drop, get_or, refl, sym, ◌∙◌, ap, subst, arith, append_assoc, length-append, length-drop}
use Rattle.std.proofs.lemmas.List.{take_all, drop_at, take-append-le, drop-append-le, get_or_append_left}
use Rattle.std.proofs.Math.Seq.{get_or-append_seam}
use Rattle.mj_log.specs.FrameLaws.{four, framed, chain, AllShort, leads_next, leads_magic}
use Rattle.mj_log.specs.Journal.{magic}
use Rattle.mj_log.specs.Places.{size_at, bytes_at, gates_of, AreSpaced, ArePlaced}

-- one gate more
pub get_within : (places : List ℕ) (end next k : ℕ) → k ≤ length places → get_or (places ++ end ∷ []) k next ≡ get_or places k end
get_within [] end next zero low = refl
get_within [] end next (suc k) low = absurd (omega arith)
get_within (p ∷ places) end next zero low = refl
get_within (p ∷ places) end next (suc k) low = get_within places end next k (omega arith)

pub get_behind : (places : List ℕ) (d k : ℕ) → length places ≤ k → get_or places k d ≡ d
get_behind [] d k high = refl
get_behind (p ∷ places) d zero high = absurd (omega arith)
get_behind (p ∷ places) d (suc k) high = get_behind places d k (omega arith)

pub get_same : (places : List ℕ) (k d e : ℕ) → k < length places → get_or places k d ≡ get_or places k e
get_same [] k d e low = absurd (omega arith)
get_same (p ∷ places) zero d e low = refl
get_same (p ∷ places) (suc k) d e low = get_same places k d e (omega arith)

lt_or_eq : (a b : ℕ) → a < b + 1 → (a < b) ⊎ (a ≡ b)
lt_or_eq a b h = grind arith

le_or_eq : (a b : ℕ) → a ≤ b + 1 → (a ≤ b) ⊎ (a ≡ b + 1)
le_or_eq a b h = grind arith

pub one_more : (places : List ℕ) (end : ℕ) → length (places ++ end ∷ []) ≡ length places + 1
one_more places end = length-append places (end ∷ [])

module _ (places : List ℕ) (end next : ℕ) where
  last_is : get_or places (length places) end ≡ end
  last_is = get_behind places end (length places) (omega arith)

  behind_last : get_or (places ++ end ∷ []) (length places + 1) next ≡ next
  behind_last = get_behind (places ++ end ∷ []) next (length places + 1) (omega (arith, one_more places end))

  pub spaced_next : AreSpaced places end → end + 5 ≤ next → AreSpaced (places ++ end ∷ []) next
  spaced_next h more = record { rise = rises; below = lies_below }
    where
      rises : (k : ℕ) → k < length (places ++ end ∷ []) → get_or (places ++ end ∷ []) k next + 5 ≤ get_or (places ++ end ∷ []) (k + 1) next
      rises k low = ⊎_elim
          (λ (inner : k < length places). let r = h.rise k inner in omega (arith, get_within places end next k (omega arith), get_within places end next (k + 1) (omega arith)))
          (λ (last : k ≡ length places). subst (λ (j : ℕ). get_or (places ++ end ∷ []) j next + 5 ≤ get_or (places ++ end ∷ []) (j + 1) next) (sym last) (omega (arith, get_within places end next (length places) (omega arith), last_is, behind_last)))
          (lt_or_eq k (length places) (omega (arith, one_more places end)))

      lies_below : (k : ℕ) → k ≤ length (places ++ end ∷ []) → get_or (places ++ end ∷ []) k next ≤ next
      lies_below k low = ⊎_elim
          (λ (inner : k ≤ length places). let r = h.below k inner in omega (arith, get_within places end next k inner))
          (λ (last : k ≡ length places + 1). subst (λ (j : ℕ). get_or (places ++ end ∷ []) j next ≤ next) (sym last) (omega (arith, behind_last)))
          (le_or_eq k (length places) (omega (arith, one_more places end)))

-- a part of the front is a part of the whole
pub part_of_front : (at n : ℕ) (front rest : List ℕ) → at + n ≤ length front → take n (drop at (front ++ rest)) ≡ take n (drop at front)
part_of_front at n front rest within =
    ap (λ (l : List ℕ). take n l) (drop-append-le at front rest (omega arith)) ∙ take-append-le n (drop at front) rest (omega (arith, length-drop at front))

pub spaced_none : (end : ℕ) → AreSpaced [] end
spaced_none end = record { rise = λ k low. absurd (omega arith); below = λ k low. omega arith }

pub placed_none : ArePlaced [] 8 [] magic
placed_none = record { leads = leads_magic; size = refl; number = refl; spaced = spaced_none 8; each = λ k low. absurd (omega arith) }

-- with one frame more
pub placed_next : (places : List ℕ) (end : ℕ) (ps : List (List ℕ)) (front : List ℕ) (g : ℕ) (q : List ℕ) → 0 < g → length q ≤ 134217728 → ArePlaced places end ps front
    → ArePlaced (places ++ end ∷ []) (end + (5 + length q)) (ps ++ q ∷ []) (front ++ g ∷ framed q)
placed_next places end ps front g q gate short h = record {
  leads = leads_next ps front g q gate short h.leads;
  size = omega (arith, long, h.size);
  number = omega (arith, one_more places end, length-append ps (q ∷ []), h.number);
  spaced = spaced_next places end next h.spaced (omega arith);
  each = each;
}
  where
    next : ℕ
    next = end + (5 + length q)

    long : length (front ++ g ∷ framed q) ≡ length front + (5 + length q)
    long = omega (arith, length-append front (g ∷ framed q), length-append (four (length q)) q)

    same_size : (k : ℕ) → k < length places → size_at (places ++ end ∷ []) next k ≡ size_at places end k
    same_size k low = omega (arith, get_within places end next k (omega arith), get_within places end next (k + 1) (omega arith))

    inner : (k : ℕ) → k < length places → bytes_at (places ++ end ∷ []) next k (front ++ g ∷ framed q) ≡ get_or (ps ++ q ∷ []) k []
    inner k low =
        let rise = h.spaced.rise k low in
        let below = h.spaced.below (k + 1) (omega arith) in
        ap (λ (n : ℕ). take n (drop (get_or (places ++ end ∷ []) k next + 5) (front ++ g ∷ framed q))) (same_size k low)
        ∙ ap (λ (n : ℕ). take (size_at places end k) (drop (n + 5) (front ++ g ∷ framed q))) (get_within places end next k (omega arith))
        ∙ part_of_front (get_or places k end + 5) (size_at places end k) front (g ∷ framed q) (omega (arith, h.size))
        ∙ h.each k low
        ∙ sym (get_or_append_left ps (q ∷ []) [] k (omega (arith, h.number)))

    head : front ++ g ∷ framed q ≡ (front ++ g ∷ four (length q)) ++ q
    head = sym (append_assoc front (g ∷ four (length q)) q)

    last_size : size_at (places ++ end ∷ []) next (length places) ≡ length q
    last_size = omega (arith, get_within places end next (length places) (omega arith), last_is places end next, behind_last places end next)

    outer : bytes_at (places ++ end ∷ []) next (length places) (front ++ g ∷ framed q) ≡ get_or (ps ++ q ∷ []) (length places) []
    outer =
        ap (λ (n : ℕ). take n (drop (get_or (places ++ end ∷ []) (length places) next + 5) (front ++ g ∷ framed q))) last_size
        ∙ ap (λ (n : ℕ). take (length q) (drop (n + 5) (front ++ g ∷ framed q))) (get_within places end next (length places) (omega arith) ∙ last_is places end next)
        ∙ ap (λ (l : List ℕ). take (length q) (drop (end + 5) l)) head
        ∙ ap (λ (l : List ℕ). take (length q) l) (drop_at (front ++ g ∷ four (length q)) q (end + 5) (omega (arith, length-append front (g ∷ four (length q)), h.size)))
        ∙ take_all (length q) q (omega arith)
        ∙ sym (ap (λ (n : ℕ). get_or (ps ++ q ∷ []) n []) h.number ∙ get_or-append_seam ps q [] [])

    each : (k : ℕ) → k < length (places ++ end ∷ []) → bytes_at (places ++ end ∷ []) next k (front ++ g ∷ framed q) ≡ get_or (ps ++ q ∷ []) k []
    each k low = ⊎_elim (inner k)
        (λ (last : k ≡ length places). subst (λ (j : ℕ). bytes_at (places ++ end ∷ []) next j (front ++ g ∷ framed q) ≡ get_or (ps ++ q ∷ []) j []) (sym last) outer)
        (lt_or_eq k (length places) (omega (arith, one_more places end)))

-- frames behind a gate, one after the other
pub placed_chain : (places : List ℕ) (end : ℕ) (ps : List (List ℕ)) (front : List ℕ) (g : ℕ) (q : List ℕ) (qs : List (List ℕ)) → 0 < g → AllShort (q ∷ qs) → ArePlaced places end ps front
    → (whole : List ℕ) × ArePlaced (places ++ gates_of end (q ∷ qs)) (end + length (chain q qs)) (ps ++ q ∷ qs) whole × (front ++ g ∷ chain q qs ≡ whole ++ 0 ∷ [])
placed_chain places end ps front g q [] gate short h = (
  front ++ g ∷ framed q,
  subst (λ (n : ℕ). ArePlaced (places ++ end ∷ []) n (ps ++ q ∷ []) (front ++ g ∷ framed q)) (omega (arith, length-append (framed q) (0 ∷ []), length-append (four (length q)) q)) (placed_next places end ps front g q gate short.0 h),
  sym (append_assoc front (g ∷ framed q) (0 ∷ [])),
)
placed_chain places end ps front g q (r ∷ rs) gate short h =
    let next = end + (5 + length q) in
    let more = placed_chain (places ++ end ∷ []) next (ps ++ q ∷ []) (front ++ g ∷ framed q) 1 r rs (omega arith) short.1 (placed_next places end ps front g q gate short.0 h) in
    let gates : (places ++ end ∷ []) ++ gates_of next (r ∷ rs) ≡ places ++ gates_of end (q ∷ r ∷ rs) = append_assoc places (end ∷ []) (gates_of next (r ∷ rs)) in
    let ends : next + length (chain r rs) ≡ end + length (chain q (r ∷ rs)) = omega (arith, length-append (framed q) (1 ∷ chain r rs), length-append (four (length q)) q) in (
      more.0,
      subst (λ (l : List ℕ). ArePlaced l (end + length (chain q (r ∷ rs))) (ps ++ q ∷ r ∷ rs) more.0) gates
          (subst (λ (n : ℕ). ArePlaced ((places ++ end ∷ []) ++ gates_of next (r ∷ rs)) n (ps ++ q ∷ r ∷ rs) more.0) ends
          (subst (λ (l : List (List ℕ)). ArePlaced ((places ++ end ∷ []) ++ gates_of next (r ∷ rs)) (next + length (chain r rs)) l more.0) (append_assoc ps (q ∷ []) (r ∷ rs)) more.1)),
      sym (append_assoc front (g ∷ framed q) (1 ∷ chain r rs)) ∙ more.2,
    )
