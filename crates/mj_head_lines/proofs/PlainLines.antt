-- One plain line of a text: from what its bytes are to its form.
use Rattle.std.proofs.Common.{◌≡◌, ◌≢◌, ℕ, zero, suc, ◌+◌, ◌-◌, ◌<◌, ◌≤◌, true, false, not, ◌&&◌, ◌||◌, eqb, leb, List, [], ◌∷◌, ◌++◌, length, get_or, take, drop, inl, inr, refl, sym, ap, ◌∙◌, arith}
use Rattle.std.specs.List.{list_all, list_any}
use Rattle.std.proofs.lemmas.Bool.{and_from, and_parts, or_left, or_right, or_cases, not-true, not_from_false, cond-true, cond-false, eqb-false, ne_eqb, cases_Bool, cases_order, both_ways, false≢true}
use Rattle.std.proofs.lemmas.List.{take-append-drop, drop_more, get_or-drop, get_or-take, drop-drop, length-take-le, length-drop}
use Rattle.std.proofs.Math.Seq.{take-add, take-append-add}
use Rattle.mj_terms.specs.Text.{is_blank}
use Rattle.mj_head_lines.specs.Lines.{before_colon, is_name_byte}
use Rattle.mj_head_lines.specs.Plain.{is_plain, IsLineAt, IsPlainAt}

-- ---- the form of a line, by its bytes

-- the byte here is a colon if those before it may stand in a name and it may not
abbrev pub EndsName : List ℕ → ℕ → Type 0
EndsName text k = ((j : ℕ) → j < k → is_name_byte (get_or text j 0) ≡ true) → is_name_byte (get_or text k 0) ≡ false → get_or text k 0 ≡ 58

lacks_lf : (line : List ℕ) → ((k : ℕ) → k < length line → get_or line k 0 ≢ 10) → list_all (λ b. not (eqb b 10)) line ≡ true
lacks_lf [] h = refl
lacks_lf (b ∷ line) h = and_from _ _ (not_from_false _ (ne_eqb b 10 (h 0 (omega arith)))) (lacks_lf line (λ k l. h (suc k) (omega arith)))

not_colon : (b : ℕ) → is_name_byte b ≡ true → eqb b 58 ≡ false
not_colon b h = not-true (eqb b 58) (and_parts (leb 33 b && leb b 126) (not (eqb b 58)) h).1

-- what stands before the first colon are bytes of a name, where a CR follows the line
before_name : (line rest : List ℕ) → ((k : ℕ) → k ≤ length line → EndsName (line ++ 13 ∷ rest) k) → (list_all is_name_byte (before_colon line) ≡ true) × (list_any (λ b. eqb b 58) line ≡ true)
before_name [] rest h = absurd (omega (arith, h 0 (omega arith) (λ j l. absurd (omega arith)) refl))
before_name (b ∷ line) rest h =
    elim (cases_Bool (eqb b 58)) [
      | inl e ↦ (ap (list_all is_name_byte) (cond-true (eqb b 58) [] (b ∷ before_colon line) e), or_left (eqb b 58) _ e)
      | inr e ↦
          elim (cases_Bool (is_name_byte b)) [
            | inl named ↦
                let more = before_name line rest (λ k l all. h (suc k) (omega arith) (λ j m. from_first named all j m)) in
                (ap (list_all is_name_byte) (cond-false (eqb b 58) [] (b ∷ before_colon line) e) ∙ and_from _ _ named more.0, or_right (eqb b 58) _ more.1)
            | inr other ↦ absurd (eqb-false b 58 e (h 0 (omega arith) (λ j l. absurd (omega arith)) other))
          ]
    ]
  where
    from_first : is_name_byte b ≡ true → {k : ℕ} → ((j : ℕ) → j < k → is_name_byte (get_or (line ++ 13 ∷ rest) j 0) ≡ true) → (j : ℕ) → j < suc k → is_name_byte (get_or (b ∷ (line ++ 13 ∷ rest)) j 0) ≡ true
    from_first named all zero l = named
    from_first named all (suc j) l = all j (omega arith)

-- a line before a CR is plain: it has no LF, and begins with a blank or a name and a colon
pub plain_form : (line rest : List ℕ) → ((k : ℕ) → k < length line → get_or line k 0 ≢ 10) → (is_blank (get_or (line ++ 13 ∷ rest) 0 0) || is_name_byte (get_or (line ++ 13 ∷ rest) 0 0)) ≡ true
    → ((k : ℕ) → 0 < k → k ≤ length line → EndsName (line ++ 13 ∷ rest) k) → is_plain line ≡ true
plain_form [] rest lacks begun named = absurd (false≢true begun)
plain_form (b ∷ line) rest lacks begun named =
    and_from _ _ (lacks_lf (b ∷ line) lacks)
    (elim (or_cases (is_blank b) (is_name_byte b) begun) [
      | inl blank ↦ or_left _ _ blank
      | inr name ↦
          let more = before_name (b ∷ line) rest (from_first name) in
          let front = cond-false (eqb b 58) [] (b ∷ before_colon line) (not_colon b name) in
          let some : not (eqb (length (before_colon (b ∷ line))) 0) ≡ true = not_from_false _ (ne_eqb (length (before_colon (b ∷ line))) 0 (λ e. omega (arith, ap length front, e))) in
          or_right (is_blank b) _ (and_from _ _ (and_from _ _ some more.0) more.1)
    ])
  where
    from_first : is_name_byte b ≡ true → (k : ℕ) → k ≤ length (b ∷ line) → EndsName (b ∷ (line ++ 13 ∷ rest)) k
    from_first name zero l all other = absurd (both_ways (is_name_byte b) other name)
    from_first name (suc k) l all other = named (suc k) (omega arith) l all other

-- ---- a line within a text

-- what holds of a text's bytes holds of the text from a place on
ends_name : (text from : List ℕ) (start k : ℕ) → ((i : ℕ) → get_or from i 0 ≡ get_or text (start + i) 0)
    → (((j : ℕ) → start ≤ j → j < start + k → is_name_byte (get_or text j 0) ≡ true) → is_name_byte (get_or text (start + k) 0) ≡ false → get_or text (start + k) 0 ≡ 58)
    → EndsName from k
ends_name text from start k byte named all other =
    byte k ∙ named (λ j low high. in_text j low (all (j - start) (omega arith))) (ap is_name_byte (sym (byte k)) ∙ other)
  where
    in_text : (j : ℕ) → start ≤ j → is_name_byte (get_or from (j - start) 0) ≡ true → is_name_byte (get_or text j 0) ≡ true
    in_text j low h =
        let back : start + (j - start) ≡ j = omega arith in
        ap is_name_byte (sym (byte (j - start) ∙ ap (λ i. get_or text i 0) back)) ∙ h

-- the text from a line on
line_at : (text : List ℕ) (start end : ℕ) → start < end → end < length text → get_or text (end - 1) 0 ≡ 13 → get_or text end 0 ≡ 10
    → drop start text ≡ take (end - 1 - start) (drop start text) ++ 13 ∷ 10 ∷ drop (end + 1) text
line_at text start end l within cr lf =
    let n : ℕ = end - 1 - start in
    let place : start + n ≡ end - 1 = omega arith in
    let next : end - 1 + 1 ≡ end = omega arith in
    let rest : drop n (drop start text) ≡ 13 ∷ 10 ∷ drop (end + 1) text =
    drop-drop n start text ∙ ap (λ i. drop i text) place ∙ drop_more text (end - 1) 0 (omega arith)
    ∙ (λ i. cr i ∷ drop (next i) text) ∙ ap (λ (t : List ℕ). 13 ∷ t) (drop_more text end 0 within ∙ ap (λ b. b ∷ drop (end + 1) text) lf) in
    sym (take-append-drop n (drop start text)) ∙ ap (λ (t : List ℕ). take n (drop start text) ++ t) rest

pub plain_at : (text : List ℕ) (start end : ℕ) → end < length text → IsLineAt text start end → 0 < end → get_or text (end - 1) 0 ≡ 13
    → (is_blank (get_or text start 0) || is_name_byte (get_or text start 0)) ≡ true
    → ((k : ℕ) → start < k → k < end → ((j : ℕ) → start ≤ j → j < k → is_name_byte (get_or text j 0) ≡ true) → is_name_byte (get_or text k 0) ≡ false → get_or text k 0 ≡ 58)
    → IsPlainAt text start end
plain_at text start end within at some cr begun named =
    let n : ℕ = end - 1 - start in
    let line : List ℕ = take n (drop start text) in
    let rest : List ℕ = drop (end + 1) text in
    let moves : start < end = elim (cases_order start end) [
      | inl e ↦ absurd (both_ways _ (ap (λ b. is_blank b || is_name_byte b) (ap (λ i. get_or text i 0) e ∙ at.ended)) begun)
      | inr less ↦ elim less [ inl l ↦ l | inr l ↦ absurd (omega (arith, at.ordered)) ]
    ] in
    let from : drop start text ≡ line ++ 13 ∷ 10 ∷ rest = line_at text start end moves within cr at.ended in
    let len : length line ≡ n = length-take-le n (drop start text) (omega (arith, length-drop start text)) in
    let byte = λ (k : ℕ). ap (λ (t : List ℕ). get_or t k 0) (sym from) ∙ get_or-drop start text k 0 in
    let first : start + 0 ≡ start = omega arith in
    let whole : end + 1 ≡ start + (n + 2) = omega arith in
    record {
      line = line;
      split =
          ap (λ i. take i text) whole ∙ take-add start (n + 2) text
          ∙ ap (λ (t : List ℕ). take start text ++ t) (ap (take (n + 2)) from ∙ ap (λ m. take (m + 2) (line ++ 13 ∷ 10 ∷ rest)) (sym len) ∙ take-append-add line (13 ∷ 10 ∷ rest) 2);
      plain = plain_form line (10 ∷ rest)
          (λ k l e. at.whole (start + k) (omega arith) (omega (arith, len)) (sym (get_or-take n (drop start text) k 0 (omega (arith, len)) ∙ get_or-drop start text k 0) ∙ e))
          (ap (λ b. is_blank b || is_name_byte b) (byte 0 ∙ ap (λ i. get_or text i 0) first) ∙ begun)
          (λ k more l. ends_name text (line ++ 13 ∷ 10 ∷ rest) start k byte (named (start + k) (omega arith) (omega (arith, len))));
    }
