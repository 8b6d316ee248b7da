-- Payloads that are added together: their frames, the places of their gates, and how many bytes they take.
use Rattle.std.proofs.Common.{◌≡◌, ℕ, zero, suc, ◌+◌, ◌-◌, ◌<◌, ◌≤◌, List, [], ◌∷◌, ◌++◌, length, take, drop, get_or, Vec, add-one, refl, sym, ◌∙◌, ap, arith, append_assoc, length-append}
use Rattle.std.specs.Prelude.{Result, Ok, Err, OnOk}
use Rattle.std.specs.declared.alloc.Global.{Global}
use Rattle.std.proofs.Math.Seq.{take-suc}
use Rattle.std.proofs.lemmas.List.{take_all, append-nil}
use Rattle.mj_log.specs.FrameLaws.{chain, framed, four, AllShort}
use Rattle.mj_log.specs.Log.{texts}
use Rattle.mj_log.specs.Places.{gates_of}
use Rattle.mj_log.specs.View.{joined, spread}

pub joined_push : (ps : List (List ℕ)) (q : List ℕ) → joined (ps ++ q ∷ []) ≡ joined ps ++ 1 ∷ framed q
joined_push [] q = append-nil (1 ∷ framed q)
joined_push (p ∷ ps) q = ap (λ (l : List ℕ). 1 ∷ framed p ++ l) (joined_push ps q) ∙ sym (append_assoc (1 ∷ framed p) (joined ps) (1 ∷ framed q))

pub joined_chain : (q : List ℕ) (qs : List (List ℕ)) → joined (q ∷ qs) ++ 0 ∷ [] ≡ 1 ∷ chain q qs
joined_chain q [] = ap (λ (l : List ℕ). l ++ 0 ∷ []) (append-nil (1 ∷ framed q))
joined_chain q (r ∷ rs) = append_assoc (1 ∷ framed q) (joined (r ∷ rs)) (0 ∷ []) ∙ ap (λ (l : List ℕ). 1 ∷ framed q ++ l) (joined_chain r rs)

get_text : (vs : List (Vec ℕ Global)) (i : ℕ) (v : Vec ℕ Global) → i < length vs → v ≡ get_or vs i v → get_or (texts vs) i [] ≡ v.items
get_text [] i v low is = absurd (omega arith)
get_text (w ∷ vs) zero v low is = ap (λ (x : Vec ℕ Global). x.items) (sym is)
get_text (w ∷ vs) (suc i) v low is = get_text vs i v (omega arith) is

pub length-texts : (vs : List (Vec ℕ Global)) → length (texts vs) ≡ length vs
length-texts [] = refl
length-texts (v ∷ vs) = ap (λ (n : ℕ). suc n) (length-texts vs)

pub joined_next : (vs : List (Vec ℕ Global)) (i : ℕ) (v : Vec ℕ Global) → i < length vs → v ≡ get_or vs i v → joined (take (i + 1) (texts vs)) ≡ joined (take i (texts vs)) ++ 1 ∷ framed v.items
joined_next vs i v low is =
    let more : take (i + 1) (texts vs) ≡ take i (texts vs) ++ get_or (texts vs) i [] ∷ [] = rw add-one (take-suc (texts vs) i [] (omega (arith, length-texts vs))) in
    ap joined (more ∙ ap (λ (q : List ℕ). take i (texts vs) ++ q ∷ []) (get_text vs i v low is)) ∙ joined_push (take i (texts vs)) v.items

suc_next : (i : ℕ) → suc (i + 1) ≡ suc i + 1
suc_next i = omega arith

-- what is left at a turn of a loop over payloads
pub texts_more : (vs : List (Vec ℕ Global)) (i : ℕ) (v : Vec ℕ Global) → i < length vs → v ≡ get_or vs i v → drop i (texts vs) ≡ v.items ∷ drop (i + 1) (texts vs)
texts_more [] i v low is = absurd (omega arith)
texts_more (w ∷ vs) zero v low is = ap (λ (x : Vec ℕ Global). x.items ∷ texts vs) (sym is)
texts_more (w ∷ vs) (suc i) v low is = texts_more vs i v (omega arith) is ∙ ap (λ (n : ℕ). v.items ∷ drop n (texts (w ∷ vs))) (suc_next i)

pub texts_end : (vs : List (Vec ℕ Global)) (i : ℕ) → length vs ≤ i → drop i (texts vs) ≡ []
texts_end [] i high = drop_none i
  where
    drop_none : (n : ℕ) → ◌≡◌ {A = List (List ℕ)} (drop n []) []
    drop_none zero = refl
    drop_none (suc n) = refl
texts_end (v ∷ vs) zero high = absurd (omega arith)
texts_end (v ∷ vs) (suc i) high = texts_end vs i (omega arith)

pub spread_more : (vs : List (Vec ℕ Global)) (i : ℕ) (v : Vec ℕ Global) → i < length vs → v ≡ get_or vs i v → spread (drop i (texts vs)) ≡ 5 + length v.items + spread (drop (i + 1) (texts vs))
spread_more vs i v low is = ap spread (texts_more vs i v low is)

pub gates_more : (gates : List ℕ) (at size : ℕ) (all : List ℕ) (vs : List (Vec ℕ Global)) (i : ℕ) (v : Vec ℕ Global) → i < length vs → v ≡ get_or vs i v → size ≡ 5 + length v.items
    → gates ++ gates_of at (drop i (texts vs)) ≡ all → (gates ++ at ∷ []) ++ gates_of (at + size) (drop (i + 1) (texts vs)) ≡ all
gates_more gates at size all vs i v low is sized so_far =
    append_assoc gates (at ∷ []) (gates_of (at + size) (drop (i + 1) (texts vs)))
    ∙ ap (λ (n : ℕ). gates ++ at ∷ gates_of (at + n) (drop (i + 1) (texts vs))) sized
    ∙ sym (ap (λ (l : List (List ℕ)). gates ++ gates_of at l) (texts_more vs i v low is)) ∙ so_far

pub chain_spread : (q : List ℕ) (qs : List (List ℕ)) → length (chain q qs) ≡ spread (q ∷ qs)
chain_spread q [] = omega (arith, length-append (framed q) (0 ∷ []), length-append (four (length q)) q)
chain_spread q (r ∷ rs) = omega (arith, length-append (framed q) (1 ∷ chain r rs), length-append (four (length q)) q, chain_spread r rs)

pub gates_count : (at : ℕ) (qs : List (List ℕ)) → length (gates_of at qs) ≡ length qs
gates_count at [] = refl
gates_count at (q ∷ qs) = ap (λ (n : ℕ). suc n) (gates_count (at + (5 + length q)) qs)

-- the frames behind the first gate
pub batch : (ps : List (List ℕ)) (all : List ℕ) → 0 < length ps → all ≡ joined ps ++ 0 ∷ [] → AllShort ps
    → (q : List ℕ) × (qs : List (List ℕ)) × (take (length all - 1) (drop 1 all) ≡ chain q qs) × AllShort (q ∷ qs) × (ps ≡ q ∷ qs)
batch [] all some is short = absurd (omega arith)
batch (q ∷ qs) all some is short =
    let whole : all ≡ 1 ∷ chain q qs = is ∙ joined_chain q qs in
    (q, qs, ap (λ (l : List ℕ). take (length l - 1) (drop 1 l)) whole ∙ take_all (length (1 ∷ chain q qs) - 1) (chain q qs) (omega arith), short, refl)

pub on_ok_map : {T E : Type 0} (A B : Type 0) (r : Result T E) → (A → B) → OnOk r A → OnOk r B
on_ok_map A B (Ok x) f h = f h
on_ok_map A B (Err e) f h = tt
