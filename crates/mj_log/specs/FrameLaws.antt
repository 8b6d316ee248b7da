-- What payloads a file has once more frames stand at its end.
use Rattle.std.specs.Prelude.{◌≡◌, ℕ, zero, suc, ◌+◌, ◌/◌, ◌%◌, ◌<◌, ◌≤◌, true, false, ◌&&◌, nat_le, nat_lt, ◌==◌, List, [], ◌∷◌, ◌++◌, length, take, drop, if◌then◌else◌, refl}
use Rattle.std.proofs.Common.{sym, ◌∙◌, ap, subst, arith, append_assoc, length-append, length-drop}
use Rattle.std.proofs.lemmas.Bool.Decides.{nat_tests}
use Rattle.std.proofs.lemmas.List.{append-nil, take_at, drop_at}
use Rattle.std.specs.Str.{bytes_eq}
use Rattle.mj_log.specs.Journal.{Reading, reads, damaged, not_a_journal, magic, number_of, behind, frames, payloads}

-- four bytes, the least first
abbrev pub four : ℕ → List ℕ
four n = n % 256 ∷ n / 256 % 256 ∷ n / 65536 % 256 ∷ n / 16777216 % 256 ∷ []

-- a payload with its length before it
abbrev pub framed : List ℕ → List ℕ
framed q = four (length q) ++ q

pub number_four : (n : ℕ) → n < 4294967296 → number_of (four n) ≡ n
number_four n h = omega arith

-- the fuel doesn't matter
pub frames_fuel : (f e n : ℕ) (bytes : List ℕ) → length bytes ≤ f → length bytes ≤ e → frames f n bytes ≡ frames e n bytes
unfolding frames
frames_fuel zero zero n bytes h k = refl
frames_fuel zero (suc e) n [] h k = refl
frames_fuel zero (suc e) n (g ∷ rest) h k = absurd (omega arith)
frames_fuel (suc f) zero n [] h k = refl
frames_fuel (suc f) zero n (g ∷ rest) h k = absurd (omega arith)
frames_fuel (suc f) (suc e) n [] h k = refl
frames_fuel (suc f) (suc e) n (g ∷ rest) h k =
    let size = number_of (take 4 rest) in
    let less = length-drop (4 + size) rest in
    ap (λ (x : Reading). if g == 0 then reads [] else (if nat_le 4 (length rest) && (nat_le size 134217728 && nat_lt (4 + size) (length rest)) then behind (take size (drop 4 rest)) x else damaged n))
    (frames_fuel f e (n + 1) (drop (4 + size) rest) (omega arith) (omega arith))

pub frames_closed : (f n : ℕ) (junk : List ℕ) → frames (suc f) n (0 ∷ junk) ≡ reads []
unfolding frames
frames_closed f n junk = refl

open_as : (f n g size : ℕ) (q tail rest : List ℕ) → (g == 0) ≡ false → number_of (take 4 rest) ≡ size → (nat_le 4 (length rest) && (nat_le size 134217728 && nat_lt (4 + size) (length rest))) ≡ true
    → take size (drop 4 rest) ≡ q → drop (4 + size) rest ≡ tail → frames (suc f) n (g ∷ rest) ≡ behind q (frames f (n + 1) tail)
unfolding frames
open_as f n g size q tail rest gate number fits is then_tail = rw (gate, number, fits, is, then_tail)

-- an open gate with a whole frame, and at least a gate behind it
pub frames_open : (f n g : ℕ) (q tail : List ℕ) → 0 < g → length q ≤ 134217728 → 1 ≤ length tail → frames (suc f) n (g ∷ (framed q ++ tail)) ≡ behind q (frames f (n + 1) tail)
frames_open f n g q tail gate short more =
    let rest : List ℕ = framed q ++ tail in
    let long : length rest ≡ 4 + length q + length tail = omega (arith, length-append (framed q) tail, length-append (four (length q)) q) in
    let apart : rest ≡ four (length q) ++ (q ++ tail) = append_assoc (four (length q)) q tail in
    let head : take 4 rest ≡ four (length q) = ap (λ (l : List ℕ). take 4 l) apart ∙ take_at (four (length q)) (q ++ tail) 4 refl in
    let back : drop 4 rest ≡ q ++ tail = ap (λ (l : List ℕ). drop 4 l) apart ∙ drop_at (four (length q)) (q ++ tail) 4 refl in
    open_as f n g (length q) q tail rest (grind (arith, nat_tests)) (ap number_of head ∙ number_four (length q) (omega arith)) (grind (arith, nat_tests))
    (ap (λ (l : List ℕ). take (length q) l) back ∙ take_at q tail (length q) refl)
    (drop_at (framed q) tail (4 + length q) (omega (arith, length-append (four (length q)) q)))

-- the payloads before the others
abbrev pub ahead : List (List ℕ) → Reading → Reading
ahead ps (reads qs) = reads (ps ++ qs)
ahead ps (damaged n) = damaged n
ahead ps not_a_journal = not_a_journal

pub ahead_behind : (ps : List (List ℕ)) (q : List ℕ) (r : Reading) → ahead ps (behind q r) ≡ ahead (ps ++ q ∷ []) r
ahead_behind ps q (reads qs) = ap reads (sym (append_assoc ps (q ∷ []) qs))
ahead_behind ps q (damaged n) = refl
ahead_behind ps q not_a_journal = refl

-- behind this front of a journal the frames go on after these payloads
pub record Leads (ps : List (List ℕ)) (front : List ℕ) : Type 0 where
  pub closed : (junk : List ℕ) → payloads (front ++ 0 ∷ junk) ≡ reads ps
  pub goes_on : (rest : List ℕ) → 1 ≤ length rest → 10 ≤ length front + length rest → payloads (front ++ rest) ≡ ahead ps (frames (length rest) (length ps) rest)
  pub long : 8 ≤ length front

-- with one frame more
pub leads_next : (ps : List (List ℕ)) (front : List ℕ) (g : ℕ) (q : List ℕ) → 0 < g → length q ≤ 134217728 → Leads ps front → Leads (ps ++ q ∷ []) (front ++ g ∷ framed q)
leads_next ps front g q gate short h = record {
  closed = λ junk. ap payloads (append_assoc front (g ∷ framed q) (0 ∷ junk)) ∙ more (0 ∷ junk) (omega arith)
      ∙ ap (λ (r : Reading). ahead (ps ++ q ∷ []) r) (frames_closed (length junk) (length (ps ++ q ∷ [])) junk) ∙ ap reads (append-nil (ps ++ q ∷ []));
  goes_on = λ rest one ten. ap payloads (append_assoc front (g ∷ framed q) rest) ∙ more rest one;
  long = let before = h.long in omega (arith, length-append front (g ∷ framed q));
}
  where
    more : (rest : List ℕ) → 1 ≤ length rest → payloads (front ++ (g ∷ (framed q ++ rest))) ≡ ahead (ps ++ q ∷ []) (frames (length rest) (length (ps ++ q ∷ [])) rest)
    more rest one =
        let long : length (framed q ++ rest) ≡ 4 + length q + length rest = omega (arith, length-append (framed q) rest, length-append (four (length q)) q) in
        let count : length ps + 1 ≡ length (ps ++ q ∷ []) = omega (arith, length-append ps (q ∷ [])) in
        let before = h.long in
        h.goes_on (g ∷ (framed q ++ rest)) (omega arith) (omega arith)
        ∙ ap (λ (r : Reading). ahead ps r) (frames_open (length (framed q ++ rest)) (length ps) g q rest gate short one)
        ∙ ahead_behind ps q (frames (length (framed q ++ rest)) (length ps + 1) rest)
        ∙ ap (λ (r : Reading). ahead (ps ++ q ∷ []) r) (frames_fuel (length (framed q ++ rest)) (length rest) (length ps + 1) rest (omega arith) (omega arith)
        ∙ ap (λ (n : ℕ). frames (length rest) n rest) count)

-- an open gate without a whole frame and a gate behind it
pub frames_broken : (f n g : ℕ) (rest : List ℕ) → 0 < g → (nat_le 4 (length rest) && (nat_le (number_of (take 4 rest)) 134217728 && nat_lt (4 + number_of (take 4 rest)) (length rest))) ≡ false → frames (suc f) n (g ∷ rest) ≡ damaged n
unfolding frames
frames_broken f n g rest gate broken =
    let test : (g == 0) ≡ false = grind (arith, nat_tests) in
    rw (test, broken)

-- so the file is damaged there
pub leads_broken : (ps : List (List ℕ)) (front : List ℕ) (g : ℕ) (rest : List ℕ) → 0 < g → (nat_le 4 (length rest) && (nat_le (number_of (take 4 rest)) 134217728 && nat_lt (4 + number_of (take 4 rest)) (length rest))) ≡ false
    → 10 ≤ length front + (1 + length rest) → Leads ps front → payloads (front ++ g ∷ rest) ≡ damaged (length ps)
leads_broken ps front g rest gate broken ten h =
    h.goes_on (g ∷ rest) (omega arith) (omega arith) ∙ ap (λ (r : Reading). ahead ps r) (frames_broken (length rest) (length ps) g rest gate broken)

-- a longer file that begins otherwise
pub other_file : (bytes : List ℕ) → 9 < length bytes → bytes_eq (take 8 bytes) magic ≡ false → payloads bytes ≡ not_a_journal
unfolding payloads
other_file bytes more other =
    let long : nat_le (length bytes) 9 ≡ false = grind (arith, nat_tests) in
    rw (long, other)

-- frames behind a gate, one after the other, and a closed gate
abbrev pub chain : List ℕ → List (List ℕ) → List ℕ
chain q [] = framed q ++ 0 ∷ []
chain q (r ∷ rs) = framed q ++ 1 ∷ chain r rs

abbrev pub AllShort : List (List ℕ) → Type 0
AllShort [] = Unit {0}
AllShort (q ∷ qs) = (length q ≤ 134217728) × AllShort qs

-- all of them count once the gate is open
pub chain_opens : (ps : List (List ℕ)) (front : List ℕ) (g : ℕ) (q : List ℕ) (qs : List (List ℕ)) → 0 < g → AllShort (q ∷ qs) → Leads ps front
    → (end : List ℕ) × Leads (ps ++ q ∷ qs) end × (front ++ g ∷ chain q qs ≡ end ++ 0 ∷ [])
chain_opens ps front g q [] gate short h =
    (front ++ g ∷ framed q, leads_next ps front g q gate short.0 h, sym (append_assoc front (g ∷ framed q) (0 ∷ [])))
chain_opens ps front g q (r ∷ rs) gate short h =
    let more = chain_opens (ps ++ q ∷ []) (front ++ g ∷ framed q) 1 r rs (omega arith) short.1 (leads_next ps front g q gate short.0 h) in
    (more.0, subst (λ (l : List (List ℕ)). Leads l more.0) (append_assoc ps (q ∷ []) (r ∷ rs)) more.1, sym (append_assoc front (g ∷ framed q) (1 ∷ chain r rs)) ∙ more.2)

pub chain_reads : (ps : List (List ℕ)) (front : List ℕ) (g : ℕ) (q : List ℕ) (qs : List (List ℕ)) → 0 < g → AllShort (q ∷ qs) → Leads ps front → payloads (front ++ g ∷ chain q qs) ≡ reads (ps ++ q ∷ qs)
chain_reads ps front g q qs gate short h = let o = chain_opens ps front g q qs gate short h in ap payloads o.2 ∙ o.1.closed []

ahead_nothing : (r : Reading) → ahead [] r ≡ r
ahead_nothing (reads qs) = refl
ahead_nothing (damaged n) = refl
ahead_nothing not_a_journal = refl

of_magic : (rest : List ℕ) → nat_le (length (magic ++ rest)) 9 ≡ false → payloads (magic ++ rest) ≡ frames (length (magic ++ rest)) 0 rest
unfolding payloads
of_magic rest long = rw long refl

short_file : (bytes : List ℕ) → nat_le (length bytes) 9 ≡ true → payloads bytes ≡ reads []
unfolding payloads
short_file bytes short = rw short refl

pub reads_short : (bytes : List ℕ) → length bytes ≤ 9 → payloads bytes ≡ reads []
reads_short bytes short = short_file bytes (grind (arith, nat_tests))

goes_on_magic : (rest : List ℕ) → 2 ≤ length rest → payloads (magic ++ rest) ≡ frames (length rest) 0 rest
goes_on_magic rest two = of_magic rest (grind (arith, nat_tests)) ∙ frames_fuel (length (magic ++ rest)) (length rest) 0 rest (omega arith) (omega arith)

closed_magic : (junk : List ℕ) → payloads (magic ++ 0 ∷ junk) ≡ reads []
closed_magic [] = reads_short (magic ++ 0 ∷ []) (omega arith)
closed_magic (j ∷ junk) = goes_on_magic (0 ∷ j ∷ junk) (omega arith) ∙ frames_closed (length (j ∷ junk)) 0 (j ∷ junk)

pub leads_magic : Leads [] magic
leads_magic = record { closed = closed_magic; goes_on = λ rest one ten. goes_on_magic rest (omega arith) ∙ sym (ahead_nothing (frames (length rest) 0 rest)); long = omega arith }
