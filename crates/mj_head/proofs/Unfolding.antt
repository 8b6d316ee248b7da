-- A raw body without its CRLFs, line by line, and a text without the blanks at its front.
use Rattle.std.proofs.Common.{◌≡◌, ℕ, suc, ◌+◌, ◌-◌, ◌<◌, ◌≤◌, Bool, true, false, not, ◌&&◌, cond, eqb, ltb, inl, inr, List, [], ◌∷◌, ◌++◌, length, get_or, take, drop, Some, None, Result, Ok, Err, refl, sym, ap, subst, ◌∙◌, append_assoc, arith}
use Rattle.std.specs.List.{list_all}
use Rattle.std.specs.Result.{OnOk, is_ok}
use Rattle.std.proofs.lemmas.Bool.{cond-true, cond-false, cond_both, cases_Bool, and_parts, and_right, and_left, eqb-true, ltb-true, ltb-false, and_from}
use Rattle.std.proofs.lemmas.List.{length-take, take_more, take-append-drop, get_or-take, drop_more, append-nil}
use Rattle.bstr.specs.Find.{IsFirstByte, is_byte}
use Rattle.bstr.specs.Bytes.{not_in}
use Rattle.mj_terms.specs.Text.{is_blank, trim_front, trim_back, trimmed}
use Rattle.mj_head.specs.Fields.{without_crlf}
use Rattle.mj_head.specs.Reading.{line_to}
use Rattle.mj_head.proofs.Lines.{Lacks, Lacks-first, Lacks-rest, first_byte, none_pass}
use Rattle.mj_head.proofs.Names.{all_blank, not_blank}
use Rattle.mj_head.proofs.Steps.{no_zero}

-- ---- CRLF

crlf_none : (text : List ℕ) → Lacks 10 text → without_crlf text ≡ text
crlf_none [] h = refl
crlf_none (a ∷ []) h = refl
crlf_none (a ∷ b ∷ text) h =
    let rest = Lacks-rest 10 a (b ∷ text) h in
    cond-false (eqb a 13 && eqb b 10) (without_crlf text) (a ∷ without_crlf (b ∷ text)) (and_right (eqb a 13) (eqb b 10) (Lacks-first 10 b text rest)) ∙ ap (λ (t : List ℕ). a ∷ t) (crlf_none (b ∷ text) rest)

crlf_bare : (rest : List ℕ) → without_crlf (10 ∷ rest) ≡ 10 ∷ without_crlf rest
crlf_bare [] = refl
crlf_bare (b ∷ rest) = refl

crlf_cr : (line rest : List ℕ) → Lacks 10 line → without_crlf ((line ++ 13 ∷ []) ++ 10 ∷ rest) ≡ line ++ without_crlf rest
crlf_cr [] rest h = refl
crlf_cr (a ∷ []) rest h = cond-false (eqb a 13 && eqb 13 10) (without_crlf (10 ∷ rest)) (a ∷ without_crlf (13 ∷ 10 ∷ rest)) (and_right (eqb a 13) (eqb 13 10) refl)
crlf_cr (a ∷ b ∷ line) rest h =
    let text : List ℕ = (line ++ 13 ∷ []) ++ 10 ∷ rest in
    let other = Lacks-rest 10 a (b ∷ line) h in
    cond-false (eqb a 13 && eqb b 10) (without_crlf text) (a ∷ without_crlf (b ∷ text)) (and_right (eqb a 13) (eqb b 10) (Lacks-first 10 b line other)) ∙ ap (λ (t : List ℕ). a ∷ t) (crlf_cr (b ∷ line) rest other)

crlf_lf : (line rest : List ℕ) (c : ℕ) → Lacks 10 (line ++ c ∷ []) → eqb c 13 ≡ false → without_crlf ((line ++ c ∷ []) ++ 10 ∷ rest) ≡ (line ++ c ∷ []) ++ 10 ∷ without_crlf rest
crlf_lf [] rest c h e = cond-false (eqb c 13 && eqb 10 10) (without_crlf rest) (c ∷ without_crlf (10 ∷ rest)) (and_left (eqb c 13) (eqb 10 10) e) ∙ ap (λ (t : List ℕ). c ∷ t) (crlf_bare rest)
crlf_lf (a ∷ []) rest c h e =
    let other = Lacks-rest 10 a (c ∷ []) h in
    cond-false (eqb a 13 && eqb c 10) (without_crlf (10 ∷ rest)) (a ∷ without_crlf (c ∷ 10 ∷ rest)) (and_right (eqb a 13) (eqb c 10) (Lacks-first 10 c [] other)) ∙ ap (λ (t : List ℕ). a ∷ t) (crlf_lf [] rest c other e)
crlf_lf (a ∷ b ∷ line) rest c h e =
    let text : List ℕ = (line ++ c ∷ []) ++ 10 ∷ rest in
    let other = Lacks-rest 10 a (b ∷ (line ++ c ∷ [])) h in
    cond-false (eqb a 13 && eqb b 10) (without_crlf text) (a ∷ without_crlf (b ∷ text)) (and_right (eqb a 13) (eqb b 10) (Lacks-first 10 b (line ++ c ∷ []) other)) ∙ ap (λ (t : List ℕ). a ∷ t) (crlf_lf (b ∷ line) rest c other e)

Lacks-front : (front rest : List ℕ) → Lacks 10 (front ++ rest) → Lacks 10 front
Lacks-front [] rest h = refl
Lacks-front (b ∷ front) rest h =
    let parts = and_parts (not (eqb b 10)) (list_all (λ x. not (eqb x 10)) (front ++ rest)) h in
    and_from (not (eqb b 10)) (list_all (λ x. not (eqb x 10)) front) parts.0 (Lacks-front front rest parts.1)

-- the first line, whose LF stands at this place
pub crlf_split : (body : List ℕ) (end : ℕ) → IsFirstByte (is_byte 10) body (Some end) → without_crlf body ≡ line_to body end ++ without_crlf (drop (end + 1) body)
crlf_split body end h =
    let p = first_byte 10 body end h in
    let rest : List ℕ = drop (end + 1) body in
    let b : ℕ = get_or body (end - 1) 0 in
    let within : end < length body = h.0.high in
    let ended : take (end + 1) body ≡ take end body ++ 10 ∷ [] = take_more body end 0 within ∙ ap (λ x. take end body ++ x ∷ []) (eqb-true (get_or body end 0) 10 h.1) in
    let joined : (take end body ++ 10 ∷ []) ++ without_crlf rest ≡ take end body ++ 10 ∷ without_crlf rest = append_assoc (take end body) (10 ∷ []) (without_crlf rest) in
    elim (cases_Bool (ltb 0 end)) [
      | inl some ↦
          let above : 0 < end = ltb-true 0 end some in
          let line : take end body ≡ take (end - 1) body ++ b ∷ [] = ap (λ n. take n body) (omega arith) ∙ take_more body (end - 1) 0 (omega arith) in
          let lacks : Lacks 10 (take (end - 1) body ++ b ∷ []) = subst (Lacks 10) line p.1 in
          let whole : body ≡ (take (end - 1) body ++ b ∷ []) ++ 10 ∷ rest = p.0 ∙ ap (λ (t : List ℕ). t ++ 10 ∷ rest) line in
          elim (cases_Bool (eqb b 13)) [
            | inl cr ↦
                ap without_crlf (whole ∙ ap (λ x. (take (end - 1) body ++ x ∷ []) ++ 10 ∷ rest) (eqb-true b 13 cr))
                ∙ crlf_cr (take (end - 1) body) rest (Lacks-front (take (end - 1) body) (b ∷ []) lacks)
                ∙ ap (λ (t : List ℕ). t ++ without_crlf rest) (sym (cond-true (ltb 0 end && eqb b 13) (take (end - 1) body) (take (end + 1) body) (and_from (ltb 0 end) (eqb b 13) some cr)))
            | inr other ↦
                ap without_crlf whole ∙ crlf_lf (take (end - 1) body) rest b lacks other
                ∙ ap (λ (t : List ℕ). t ++ 10 ∷ without_crlf rest) (sym line) ∙ sym joined
                ∙ ap (λ (t : List ℕ). t ++ without_crlf rest) (sym (cond-false (ltb 0 end && eqb b 13) (take (end - 1) body) (take (end + 1) body) (and_right (ltb 0 end) (eqb b 13) other) ∙ ended))
          ]
      | inr none ↦
          let zero-is : end ≡ 0 = omega (arith, ltb-false 0 end none) in
          let line : take end body ≡ [] = ap (λ n. take n body) zero-is in
          ap without_crlf (p.0 ∙ ap (λ (t : List ℕ). t ++ 10 ∷ rest) line) ∙ crlf_bare rest
          ∙ ap (λ (t : List ℕ). t ++ 10 ∷ without_crlf rest) (sym line) ∙ sym joined
          ∙ ap (λ (t : List ℕ). t ++ without_crlf rest) (sym (cond-false (ltb 0 end && eqb b 13) (take (end - 1) body) (take (end + 1) body) (and_left (ltb 0 end) (eqb b 13) none) ∙ ended))
    ]

pub crlf_whole : (body : List ℕ) → IsFirstByte (is_byte 10) body None → without_crlf body ≡ body
crlf_whole body h = crlf_none body (none_pass (is_byte 10) body h)

-- ---- blanks at the front

trim_front-le : (text : List ℕ) → length (trim_front text) ≤ length text
trim_front-le [] = omega arith
trim_front-le (b ∷ text) = cond_both (is_blank b) (trim_front text) (b ∷ text) (λ (t : List ℕ). length t ≤ length (b ∷ text)) (λ _. omega (arith, trim_front-le text)) (λ _. omega arith)

trim_front-append : (text rest : List ℕ) → trim_front (trim_front text ++ rest) ≡ trim_front (text ++ rest)
trim_front-append [] rest = refl
trim_front-append (b ∷ text) rest =
    elim (cases_Bool (is_blank b)) [
      | inl e ↦ ap (λ (t : List ℕ). trim_front (t ++ rest)) (cond-true (is_blank b) (trim_front text) (b ∷ text) e) ∙ trim_front-append text rest ∙ sym (cond-true (is_blank b) (trim_front (text ++ rest)) (b ∷ (text ++ rest)) e)
      | inr e ↦ ap (λ (t : List ℕ). trim_front (t ++ rest)) (cond-false (is_blank b) (trim_front text) (b ∷ text) e)
    ]

trim_front-trim_front : (text : List ℕ) → trim_front (trim_front text) ≡ trim_front text
trim_front-trim_front text = ap trim_front (sym (append-nil (trim_front text))) ∙ trim_front-append text [] ∙ ap trim_front (append-nil text)

-- what a push of a part leaves
pub pushed_trimmed : (text part : List ℕ) → trim_front text ≡ text → let new : List ℕ = text ++ cond (eqb (length text) 0) (trim_front part) part in (trim_front new ≡ new) × ((rest : List ℕ) → trim_front (new ++ rest) ≡ trim_front (text ++ part ++ rest))
pushed_trimmed [] part h = (trim_front-trim_front part, λ rest. trim_front-append part rest)
pushed_trimmed (b ∷ text) part h =
    elim (cases_Bool (is_blank b)) [
      | inl e ↦ absurd (omega (arith, trim_front-le text, ap length (sym (cond-true (is_blank b) (trim_front text) (b ∷ text) e) ∙ h)))
      | inr e ↦
          let same : b ∷ (text ++ cond (eqb (suc (length text)) 0) (trim_front part) part) ≡ b ∷ (text ++ part) = ap (λ (t : List ℕ). b ∷ (text ++ t)) (cond-false (eqb (suc (length text)) 0) (trim_front part) part (no_zero (length text))) in
          (cond-false (is_blank b) _ _ e, λ rest. ap (λ (t : List ℕ). trim_front (t ++ rest)) same)
    ]

-- the blanks at the front end at the first other byte
trim_front_blank : (text : List ℕ) → list_all is_blank text ≡ true → trim_front text ≡ []
trim_front_blank [] h = refl
trim_front_blank (b ∷ text) h =
    let parts = and_parts (is_blank b) (list_all is_blank text) h in
    cond-true (is_blank b) (trim_front text) (b ∷ text) parts.0 ∙ trim_front_blank text parts.1

trim_front_over : (front rest : List ℕ) → list_all is_blank front ≡ true → trim_front (front ++ rest) ≡ trim_front rest
trim_front_over [] rest h = refl
trim_front_over (b ∷ front) rest h =
    let parts = and_parts (is_blank b) (list_all is_blank front) h in
    cond-true (is_blank b) (trim_front (front ++ rest)) (b ∷ (front ++ rest)) parts.0 ∙ trim_front_over front rest parts.1

pub front_none : (text : List ℕ) → IsFirstByte (not_in (32 ∷ 9 ∷ [])) text None → trim_front text ≡ []
front_none text h = trim_front_blank text (all_blank text h)

pub front_at : (text : List ℕ) (first : ℕ) → IsFirstByte (not_in (32 ∷ 9 ∷ [])) text (Some first) → trim_front text ≡ drop first text
front_at text first h =
    let within : first < length text = h.0.high in
    let blank : list_all is_blank (take first text) ≡ true =
    all_blank (take first text) (λ k low high p. h.0.before k low (omega (arith, length-take first text)) (ap (not_in (32 ∷ 9 ∷ [])) (sym (get_or-take first text k 0 (omega (arith, length-take first text)))) ∙ p)) in
    let rest : drop first text ≡ get_or text first 0 ∷ drop (first + 1) text = drop_more text first 0 within in
    ap trim_front (sym (take-append-drop first text)) ∙ trim_front_over (take first text) (drop first text) blank
    ∙ ap trim_front rest ∙ cond-false (is_blank (get_or text first 0)) (trim_front (drop (first + 1) text)) (get_or text first 0 ∷ drop (first + 1) text) (not_blank (get_or text first 0) h.1) ∙ sym rest

-- a text as far as its end without blanks
pub take_trim_back : (text : List ℕ) → take (length (trim_back text)) text ≡ trim_back text
take_trim_back [] = refl
take_trim_back (b ∷ text) =
    cond_both (list_all is_blank (b ∷ text)) [] (b ∷ trim_back text) (λ (t : List ℕ). take (length t) (b ∷ text) ≡ t) (λ _. refl) (λ _. ap (λ (t : List ℕ). b ∷ t) (take_trim_back text))

-- all of a body was unfolded
pub all_unfolded : (body text rest new : List ℕ) → trim_front (text ++ rest) ≡ trim_front (without_crlf body) → trim_front new ≡ new → ((more : List ℕ) → trim_front (new ++ more) ≡ trim_front (text ++ rest ++ more)) → new ≡ trim_front (without_crlf body)
all_unfolded body text rest new so_far trimmed same =
    sym trimmed ∙ ap trim_front (sym (append-nil new)) ∙ same [] ∙ ap trim_front (append-nil (text ++ rest)) ∙ so_far

pub pushed_new : (text part front new : List ℕ) (first ok : Bool) → trim_front text ≡ text → first ≡ eqb (length text) 0 → front ≡ cond first (trim_front part) part → new ≡ cond ok (text ++ front) text → trim_front new ≡ new
pushed_new text part front new first ok h is front-is new-is =
    let pushed : text ++ front ≡ text ++ cond (eqb (length text) 0) (trim_front part) part = ap (λ (t : List ℕ). text ++ t) (front-is ∙ ap (λ b. cond b (trim_front part) part) is) in
    rw new-is (cond_both ok (text ++ front) text (λ (t : List ℕ). trim_front t ≡ t) (λ _. rw pushed ((pushed_trimmed text part h).0)) (λ _. h))

pub pushed_same : (text part front new : List ℕ) (first ok : Bool) → trim_front text ≡ text → first ≡ eqb (length text) 0 → front ≡ cond first (trim_front part) part → new ≡ cond ok (text ++ front) text → ok ≡ true → (rest : List ℕ) → trim_front (new ++ rest) ≡ trim_front (text ++ part ++ rest)
pushed_same text part front new first ok h is front-is new-is done rest =
    let pushed : new ≡ text ++ cond (eqb (length text) 0) (trim_front part) part = new-is ∙ cond-true ok (text ++ front) text done ∙ ap (λ (t : List ℕ). text ++ t) (front-is ∙ ap (λ b. cond b (trim_front part) part) is) in
    ap (λ (t : List ℕ). trim_front (t ++ rest)) pushed ∙ (pushed_trimmed text part h).1 rest

pub on_ok_from : {T E P : Type 0} (r : Result T E) → (is_ok r ≡ true → P) → OnOk r P
on_ok_from (Ok x) h = h refl
on_ok_from (Err e) h = tt
