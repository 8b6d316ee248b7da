-- The first line of a text, by where its LF stands.
use Rattle.std.proofs.Common.{◌≡◌, ℕ, suc, ◌+◌, ◌-◌, ◌<◌, ◌≤◌, ◌⊎◌, Bool, true, false, not, cond, eqb, ltb, List, [], ◌∷◌, ◌++◌, length, get_or, take, drop, Some, None, refl, sym, ap, ◌∙◌, arith, inl, inr}
use Rattle.std.specs.List.{list_all}
use Rattle.std.proofs.lemmas.Bool.{and_parts, and_from, and_right, not-true, not_from_false, false_from_ne_true, eqb-true, cases_Bool, lt-ltb}
use Rattle.std.proofs.lemmas.List.{take-append-drop, drop_more, get_or-take, length-append, length-take, length-drop, take_at, get_or_push, length_push}
use Rattle.bstr.specs.Find.{IsFirstByte, Nowhere, Passes, is_byte}
use Rattle.bstr.specs.Text.{no_cr}
use Rattle.mj_head.specs.Head.{lines, content}
use Rattle.mj_head.specs.Reading.{IsFirstLine}

-- the byte stands nowhere in the text
abbrev pub Lacks : ℕ → List ℕ → Type 0
Lacks c text = list_all (λ b. not (eqb b c)) text ≡ true

pub Lacks-first : (c b : ℕ) (text : List ℕ) → Lacks c (b ∷ text) → eqb b c ≡ false
Lacks-first c b text h = not-true (eqb b c) (and_parts (not (eqb b c)) (list_all (λ x. not (eqb x c)) text) h).0

pub Lacks-rest : (c b : ℕ) (text : List ℕ) → Lacks c (b ∷ text) → Lacks c text
Lacks-rest c b text h = (and_parts (not (eqb b c)) (list_all (λ x. not (eqb x c)) text) h).1

pub Lacks-cons : (c b : ℕ) (text : List ℕ) → eqb b c ≡ false → Lacks c text → Lacks c (b ∷ text)
Lacks-cons c b text e h = and_from (not (eqb b c)) (list_all (λ x. not (eqb x c)) text) (not_from_false (eqb b c) e) h

pub none_pass : (test : ℕ → Bool) (text : List ℕ) → Nowhere (Passes test text) 0 (length text) → list_all (λ b. not (test b)) text ≡ true
none_pass test [] h = refl
none_pass test (b ∷ text) h =
    and_from (not (test b)) (list_all (λ x. not (test x)) text)
    (not_from_false (test b) (false_from_ne_true (test b) (λ e. h 0 (omega arith) (omega arith) e)))
    (none_pass test text (λ k low high p. h (suc k) (omega arith) (omega arith) p))

-- a text is what stands before the first place of a byte, that byte, and what stands behind it
pub first_byte : (c : ℕ) (text : List ℕ) (k : ℕ) → IsFirstByte (is_byte c) text (Some k) → (text ≡ take k text ++ c ∷ drop (k + 1) text) × Lacks c (take k text)
first_byte c text k h =
    let within : k < length text = h.0.high in
    let is : get_or text k 0 ≡ c = eqb-true (get_or text k 0) c h.1 in
    let len : length (take k text) ≡ k = omega (arith, length-take k text) in (
      sym (take-append-drop k text) ∙ ap (λ (t : List ℕ). take k text ++ t) (drop_more text k 0 within ∙ ap (λ b. b ∷ drop (k + 1) text) is),
      none_pass (is_byte c) (take k text) (λ i low high p. h.0.before i low (omega arith) (ap (is_byte c) (sym (get_or-take k text i 0 (omega arith))) ∙ p)),
    )

pub lines_split : (line rest : List ℕ) → Lacks 10 line → lines (line ++ 10 ∷ rest) ≡ (line ++ 10 ∷ []) ∷ lines rest
lines_split [] rest h = refl
lines_split (b ∷ line) rest h = rw (Lacks-first 10 b line h, lines_split line rest (Lacks-rest 10 b line h)) refl

pub lines_last : (b : ℕ) (line : List ℕ) → Lacks 10 (b ∷ line) → lines (b ∷ line) ≡ (b ∷ line) ∷ []
lines_last b [] h = rw (Lacks-first 10 b [] h) refl
lines_last b (c ∷ line) h = rw (Lacks-first 10 b (c ∷ line) h, lines_last c line (Lacks-rest 10 b (c ∷ line) h)) refl

-- a byte before two others or more is in the content
pub content-cons : (b : ℕ) (line : List ℕ) → 2 ≤ length line → content (b ∷ line) ≡ b ∷ content line
content-cons b [] h = absurd (omega arith)
content-cons b (c ∷ []) h = absurd (omega arith)
content-cons b (c ∷ d ∷ line) h = refl

-- a line without LF is its content
pub content_same : (line : List ℕ) → Lacks 10 line → content line ≡ line
content_same [] h = refl
content_same (b ∷ []) h = rw (Lacks-first 10 b [] h) refl
content_same (b ∷ c ∷ []) h =
    rw (and_right (eqb b 13) (eqb c 10) (Lacks-first 10 c [] (Lacks-rest 10 b (c ∷ []) h)), Lacks-first 10 c [] (Lacks-rest 10 b (c ∷ []) h)) refl
content_same (b ∷ c ∷ d ∷ line) h = ap (λ (t : List ℕ). b ∷ t) (content_same (c ∷ d ∷ line) (Lacks-rest 10 b (c ∷ d ∷ line) h))

pub content_cr : (line : List ℕ) → content ((line ++ 13 ∷ []) ++ 10 ∷ []) ≡ line
content_cr [] = refl
content_cr (b ∷ line) =
    content-cons b ((line ++ 13 ∷ []) ++ 10 ∷ []) (omega (arith, length-append (line ++ 13 ∷ []) (10 ∷ []), length-append line (13 ∷ []))) ∙ ap (λ (t : List ℕ). b ∷ t) (content_cr line)

pub content_lf : (line : List ℕ) (c : ℕ) → eqb c 13 ≡ false → content ((line ++ c ∷ []) ++ 10 ∷ []) ≡ line ++ c ∷ []
content_lf [] c e = rw e refl
content_lf (b ∷ line) c e =
    content-cons b ((line ++ c ∷ []) ++ 10 ∷ []) (omega (arith, length-append (line ++ c ∷ []) (10 ∷ []), length-append line (c ∷ []))) ∙ ap (λ (t : List ℕ). b ∷ t) (content_lf line c e)

no_cr_push : (line : List ℕ) (c : ℕ) → no_cr (line ++ c ∷ []) ≡ cond (eqb c 13) line (line ++ c ∷ [])
no_cr_push line c =
    let len : length (line ++ c ∷ []) - 1 ≡ length line = omega (arith, length_push line c) in
    let some : ltb 0 (length (line ++ c ∷ [])) ≡ true = lt-ltb 0 (length (line ++ c ∷ [])) (omega (arith, length_push line c)) in
    rw (some, len, get_or_push line c 0 (length line) refl, take_at line (c ∷ []) (length line) refl) refl

-- a list is empty, or has a last element
pub cases_last : (line : List ℕ) → (line ≡ []) ⊎ ((front : List ℕ) × (last : ℕ) × (line ≡ front ++ last ∷ []))
cases_last [] = inl refl
cases_last (b ∷ line) =
    elim (cases_last line) [
      | inl e ↦ inr ([], b, ap (λ (t : List ℕ). b ∷ t) e)
      | inr h ↦ inr (b ∷ h.0, h.1, ap (λ (t : List ℕ). b ∷ t) h.2)
    ]

pub content-ended : (line : List ℕ) → content (line ++ 10 ∷ []) ≡ no_cr line
content-ended line =
    elim (cases_last line) [
      | inl e ↦ rw e refl
      | inr h ↦ rw (h.2, no_cr_push h.0 h.1) (elim (cases_Bool (eqb h.1 13)) [
        | inl cr ↦ rw (cr, eqb-true h.1 13 cr) (content_cr h.0)
        | inr other ↦ rw other (content_lf h.0 h.1 other)
      ])
    ]

-- the first line of a text with LF
pub first_line_at : (text : List ℕ) (k : ℕ) → IsFirstByte (is_byte 10) text (Some k) → IsFirstLine text (no_cr (take k text)) (drop (k + 1) text)
first_line_at text k h =
    let p = first_byte 10 text k h in
    record {
      whole = take k text ++ 10 ∷ [];
      split = ap lines p.0 ∙ lines_split (take k text) (drop (k + 1) text) p.1;
      said = content-ended (take k text);
      len = omega (arith, length_push (take k text) 10, length-take k text, length-drop (k + 1) text, h.0.high);
    }

-- the one line of a text without LF
pub first_line_last : (text : List ℕ) → 0 < length text → IsFirstByte (is_byte 10) text None → IsFirstLine text text []
first_line_last [] some h = absurd (omega arith)
first_line_last (b ∷ text) some h =
    let lacks : Lacks 10 (b ∷ text) = none_pass (is_byte 10) (b ∷ text) h in
    record { whole = b ∷ text; split = lines_last b text lacks; said = content_same (b ∷ text) lacks; len = omega arith }
