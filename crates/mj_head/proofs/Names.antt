-- A line around its first colon, and a text without the blanks at its end.
use Rattle.std.proofs.Common.{◌≡◌, ℕ, suc, ◌+◌, ◌<◌, ◌≤◌, Bool, true, false, not, ◌||◌, eqb, inl, inr, List, [], ◌∷◌, ◌++◌, length, get_or, take, drop, Some, refl, sym, ap, ◌∙◌, arith}
use Rattle.std.specs.List.{list_all, list_any}
use Rattle.std.proofs.lemmas.Bool.{and_from, and_left, and_right, false_from_ne_true, cond-true, cond-false, or_from, cond_both, cases_Bool, false≢true, eqb-true}
use Rattle.std.proofs.lemmas.List.{take-append-drop, take_more, get_or-drop, length-drop, length-append}
use Rattle.bstr.specs.Find.{IsLastByte, Nowhere, Passes}
use Rattle.bstr.specs.Bytes.{is_in, not_in}
use Rattle.mj_terms.specs.Text.{is_blank, trim_back}
use Rattle.mj_head.specs.Head.{before_colon, after_colon}
use Rattle.mj_head.proofs.Lines.{Lacks, Lacks-first, Lacks-rest}

pub no_colon : (line : List ℕ) → Lacks 58 line → list_any (λ b. eqb b 58) line ≡ false
no_colon [] h = refl
no_colon (b ∷ line) h = or_from (eqb b 58) (list_any (λ x. eqb x 58) line) (Lacks-first 58 b line h) (no_colon line (Lacks-rest 58 b line h))

pub has_colon : (front value : List ℕ) → list_any (λ b. eqb b 58) (front ++ 58 ∷ value) ≡ true
has_colon [] value = refl
has_colon (b ∷ front) value = rw (has_colon front value) (or_true (eqb b 58)) where
  or_true : (x : Bool) → (x || true) ≡ true
  or_true true = refl
  or_true false = refl

pub before_colon_at : (front value : List ℕ) → Lacks 58 front → before_colon (front ++ 58 ∷ value) ≡ front
before_colon_at [] value h = refl
before_colon_at (b ∷ front) value h = rw (Lacks-first 58 b front h, before_colon_at front value (Lacks-rest 58 b front h)) refl

pub after_colon_at : (front value : List ℕ) → Lacks 58 front → after_colon (front ++ 58 ∷ value) ≡ value
after_colon_at [] value h = refl
after_colon_at (b ∷ front) value h = rw (Lacks-first 58 b front h, after_colon_at front value (Lacks-rest 58 b front h)) refl

-- ---- blanks

blank_from : (x y : Bool) → not (x || (y || false)) ≡ false → (x || y) ≡ true
blank_from true y h = refl
blank_from false true h = refl
blank_from false false h = sym h

other_from : (x y : Bool) → not (x || (y || false)) ≡ true → (x || y) ≡ false
other_from true y h = sym h
other_from false true h = sym h
other_from false false h = refl

pub all_blank : (text : List ℕ) → Nowhere (Passes (not_in (32 ∷ 9 ∷ [])) text) 0 (length text) → list_all is_blank text ≡ true
unfolding is_in
all_blank [] h = refl
all_blank (b ∷ text) h =
    and_from (is_blank b) (list_all is_blank text)
    (blank_from (eqb b 32) (eqb b 9) (false_from_ne_true (not_in (32 ∷ 9 ∷ []) b) (λ e. h 0 (omega arith) (omega arith) e)))
    (all_blank text (λ k low high p. h (suc k) (omega arith) (omega arith) p))

pub not_blank : (b : ℕ) → not_in (32 ∷ 9 ∷ []) b ≡ true → is_blank b ≡ false
unfolding is_in
not_blank b h = other_from (eqb b 32) (eqb b 9) h

pub trim_back_blank : (text : List ℕ) → list_all is_blank text ≡ true → trim_back text ≡ []
trim_back_blank [] h = refl
trim_back_blank (b ∷ text) h = cond-true (list_all is_blank (b ∷ text)) [] (b ∷ trim_back text) h

not_all : (front rest : List ℕ) (b : ℕ) → is_blank b ≡ false → list_all is_blank ((front ++ b ∷ []) ++ rest) ≡ false
not_all [] rest b h = and_left (is_blank b) (list_all is_blank rest) h
not_all (a ∷ front) rest b h = and_right (is_blank a) (list_all is_blank ((front ++ b ∷ []) ++ rest)) (not_all front rest b h)

pub trim_back_at : (front rest : List ℕ) (b : ℕ) → is_blank b ≡ false → list_all is_blank rest ≡ true → trim_back ((front ++ b ∷ []) ++ rest) ≡ front ++ b ∷ []
trim_back_at [] rest b h all =
    cond-false (list_all is_blank (b ∷ rest)) [] (b ∷ trim_back rest) (and_left (is_blank b) (list_all is_blank rest) h) ∙ ap (λ (t : List ℕ). b ∷ t) (trim_back_blank rest all)
trim_back_at (a ∷ front) rest b h all =
    let text : List ℕ = (front ++ b ∷ []) ++ rest in
    cond-false (list_all is_blank (a ∷ text)) [] (a ∷ trim_back text) (and_right (is_blank a) (list_all is_blank text) (not_all front rest b h))
    ∙ ap (λ (t : List ℕ). a ∷ t) (trim_back_at front rest b h all)

-- a text up to its last byte that is no blank
pub trimmed_at : (text : List ℕ) (last : ℕ) → IsLastByte (not_in (32 ∷ 9 ∷ [])) text (Some last) → take (last + 1) text ≡ trim_back text
trimmed_at text last h =
    let within : last < length text = h.0.high in
    let front : take (last + 1) text ≡ take last text ++ get_or text last 0 ∷ [] = take_more text last 0 within in
    let rest : list_all is_blank (drop (last + 1) text) ≡ true =
    all_blank (drop (last + 1) text) (λ k low high p. h.0.after (last + 1 + k) (omega arith) (omega (arith, length-drop (last + 1) text)) (ap (not_in (32 ∷ 9 ∷ [])) (sym (get_or-drop (last + 1) text k 0)) ∙ p)) in
    let whole : text ≡ (take last text ++ get_or text last 0 ∷ []) ++ drop (last + 1) text = sym (take-append-drop (last + 1) text) ∙ ap (λ (t : List ℕ). t ++ drop (last + 1) text) front in
    front ∙ sym (ap trim_back whole ∙ trim_back_at (take last text) (drop (last + 1) text) (get_or text last 0) (not_blank (get_or text last 0) h.1) rest)

-- ---- lengths

trim_back-le : (text : List ℕ) → length (trim_back text) ≤ length text
trim_back-le [] = omega arith
trim_back-le (b ∷ text) = cond_both (list_all is_blank (b ∷ text)) [] (b ∷ trim_back text) (λ (t : List ℕ). length t ≤ length (b ∷ text)) (λ _. omega arith) (λ _. omega (arith, trim_back-le text))

before_after-lt : (line : List ℕ) → list_any (λ b. eqb b 58) line ≡ true → length (before_colon line) + length (after_colon line) < length line
before_after-lt [] h = absurd (false≢true h)
before_after-lt (b ∷ line) h =
    elim (cases_Bool (eqb b 58)) [
      | inl e ↦ rw e (omega arith)
      | inr e ↦ rw e (let more = before_after-lt line (sym (ap (λ (x : Bool). x || list_any (λ c. eqb c 58) line) e) ∙ h) in omega arith)
    ]

-- a line's name and value are shorter than it
pub name_value-lt : (line : List ℕ) → list_any (λ b. eqb b 58) line ≡ true → length (trim_back (before_colon line)) + length (after_colon line) < length line
name_value-lt line h = omega (arith, trim_back-le (before_colon line), before_after-lt line h)

-- ---- a line that is its name, the colon and what follows it

pub around_colon : (line : List ℕ) → list_any (λ b. eqb b 58) line ≡ true → line ≡ before_colon line ++ 58 ∷ after_colon line
around_colon [] h = absurd (false≢true h)
around_colon (b ∷ line) h =
    elim (cases_Bool (eqb b 58)) [
      | inl e ↦ rw (e, eqb-true b 58 e) refl
      | inr e ↦ rw e (ap (λ (t : List ℕ). b ∷ t) (around_colon line (sym (ap (λ (x : Bool). x || list_any (λ c. eqb c 58) line) e) ∙ h)))
    ]

untrimmed : (text : List ℕ) → length text ≤ length (trim_back text) → trim_back text ≡ text
untrimmed [] h = refl
untrimmed (b ∷ text) h =
    elim (cases_Bool (list_all is_blank (b ∷ text))) [
      | inl e ↦ absurd (omega (arith, h, ap length (cond-true (list_all is_blank (b ∷ text)) [] (b ∷ trim_back text) e)))
      | inr e ↦
          let same = cond-false (list_all is_blank (b ∷ text)) [] (b ∷ trim_back text) e in
          same ∙ ap (λ (t : List ℕ). b ∷ t) (untrimmed text (omega (arith, h, ap length same)))
    ]

pub whole_line : (line name value : List ℕ) → list_any (λ b. eqb b 58) line ≡ true → trim_back (before_colon line) ≡ name → after_colon line ≡ value → length name + length value + 1 ≡ length line → line ≡ name ++ 58 ∷ value
whole_line line name value h n v len =
    let front : List ℕ = before_colon line in
    let whole = around_colon line h in
    let all : length line ≡ length front + (length (after_colon line) + 1) = omega (arith, ap length whole, length-append front (58 ∷ after_colon line)) in
    let same : trim_back front ≡ front = untrimmed front (omega (arith, all, ap length n, ap length v, len)) in
    whole ∙ ap (λ (t : List ℕ). t ++ 58 ∷ after_colon line) (sym same ∙ n) ∙ ap (λ (t : List ℕ). name ++ 58 ∷ t) v
