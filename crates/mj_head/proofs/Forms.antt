-- The fields of a text without a fault have the form of fields.
use Rattle.std.proofs.Common.{◌≡◌, ℕ, ◌+◌, ◌≤◌, Bool, true, false, not, ◌&&◌, cond, eqb, ltb, inl, inr, List, [], ◌∷◌, ◌++◌, length, Option, Some, None, refl, sym, ap, ◌∙◌, arith}
use Rattle.std.specs.List.{list_all, list_any}
use Rattle.std.proofs.lemmas.Bool.{cond-true, cond-false, cond_both, cases_Bool, and_parts, and_from, false≢true, ltb-false}
use Rattle.std.proofs.lemmas.List.{length-append}
use Rattle.mj_head.specs.declared.fault.HeadFault.{HeadFault}
use Rattle.mj_head.specs.declared.fault.HeadFault.TheVariants.{ContinuationFirst, NoColon, BadName, TooLong}
use Rattle.mj_head.specs.Head.{RawField, written, lines, lengthened, content, is_line_end, head_lines, is_continuation, begins_blank, continued, after_colon, name_of, is_field_name, is_field, is_folded, is_raw_body, fields_of, added_by, form_fault, line_fault, or_else, first_fault}
use Rattle.mj_head.proofs.Lines.{Lacks, Lacks-cons, Lacks-first, Lacks-rest}

-- no LF stands in the text
abbrev pub lacks : List ℕ → Bool
lacks text = list_all (λ b. not (eqb b 10)) text

abbrev clean : List (List ℕ) → Bool
clean ls = list_all (λ line. lacks (content line)) ls

clean_cons : (b : ℕ) (line : List ℕ) → eqb b 10 ≡ false → lacks (content line) ≡ true → lacks (content (b ∷ line)) ≡ true
clean_cons b line e h = cond_both (is_line_end (b ∷ line)) [] (b ∷ content line) (λ (t : List ℕ). lacks t ≡ true) (λ _. refl) (λ _. Lacks-cons 10 b (content line) e h)

clean_lengthened : (b : ℕ) (ls : List (List ℕ)) → eqb b 10 ≡ false → clean ls ≡ true → clean (lengthened b ls) ≡ true
clean_lengthened b [] e h = and_from (lacks (content (b ∷ []))) true (clean_cons b [] e refl) refl
clean_lengthened b (line ∷ ls) e h =
    let p = and_parts (lacks (content line)) (clean ls) h in
    and_from (lacks (content (b ∷ line))) (clean ls) (clean_cons b line e p.0) p.1

clean_lines : (text : List ℕ) → clean (lines text) ≡ true
clean_lines [] = refl
clean_lines (b ∷ text) =
    cond_both (eqb b 10) ((b ∷ []) ∷ lines text) (lengthened b (lines text)) (λ (ls : List (List ℕ)). clean ls ≡ true)
    (λ e. and_from (lacks (content (b ∷ []))) (clean (lines text)) (ap lacks (cond-true (eqb b 10) [] (b ∷ []) e)) (clean_lines text))
    (λ e. clean_lengthened b (lines text) e (clean_lines text))

clean_head : (ls : List (List ℕ)) → clean ls ≡ true → list_all lacks (head_lines ls) ≡ true
clean_head [] h = refl
clean_head (line ∷ ls) h =
    let p = and_parts (lacks (content line)) (clean ls) h in
    cond_both (eqb (length (content line)) 0) [] (content line ∷ head_lines ls) (λ (t : List (List ℕ)). list_all lacks t ≡ true)
    (λ _. refl)
    (λ _. and_from (lacks (content line)) (list_all lacks (head_lines ls)) p.0 (clean_head ls p.1))

-- the lines of a head have no LF
pub lines_lack : (text : List ℕ) → list_all lacks (head_lines (lines text)) ≡ true
lines_lack text = clean_head (lines text) (clean_lines text)

folded_over : (before : ℕ) (line tail : List ℕ) → Lacks 10 line → ((b : ℕ) → is_folded b tail ≡ true) → is_folded before (line ++ tail) ≡ true
folded_over before [] tail h t = t before
folded_over before (b ∷ line) tail h t =
    and_from (cond (eqb b 10) (eqb before 13 && begins_blank (line ++ tail)) true) (is_folded b (line ++ tail))
    (cond-false (eqb b 10) (eqb before 13 && begins_blank (line ++ tail)) true (Lacks-first 10 b line h))
    (folded_over b line tail (Lacks-rest 10 b line h) t)

blank_then : (line tail : List ℕ) → is_continuation line ≡ true → begins_blank (line ++ tail) ≡ true
blank_then [] tail e = absurd (false≢true e)
blank_then (b ∷ line) tail e = e

folded_rest : (ls : List (List ℕ)) → list_all lacks ls ≡ true → (before : ℕ) → is_folded before (continued ls) ≡ true
folded_rest [] h before = refl
folded_rest (line ∷ ls) h before =
    let p = and_parts (lacks line) (list_all lacks ls) h in
    cond_both (is_continuation line) ((13 ∷ 10 ∷ line) ++ continued ls) [] (λ (t : List ℕ). is_folded before t ≡ true)
    (λ e. and_from (begins_blank (line ++ continued ls)) (is_folded 10 (line ++ continued ls)) (blank_then line (continued ls) e) (folded_over 10 line (continued ls) p.0 (folded_rest ls p.1)))
    (λ _. refl)

Lacks-after_colon : (line : List ℕ) → Lacks 10 line → Lacks 10 (after_colon line)
Lacks-after_colon [] h = refl
Lacks-after_colon (b ∷ line) h =
    cond_both (eqb b 58) line (after_colon line) (λ (t : List ℕ). Lacks 10 t) (λ _. Lacks-rest 10 b line h) (λ _. Lacks-after_colon line (Lacks-rest 10 b line h))

pub or_none : (a b : Option HeadFault) → or_else a b ≡ None → (a ≡ None) × (b ≡ None)
or_none None b e = (refl, e)
or_none (Some fault) b e = absurd cc

chain : (a c d : Bool) (x : Option HeadFault) (p q : HeadFault) → cond a x (cond (not c) (Some p) (cond (not d) (Some q) None)) ≡ None → a ≡ false → d ≡ true
chain true c d x p q e f = absurd (false≢true (sym f))
chain false false d x p q e f = absurd cc
chain false true false x p q e f = absurd cc
chain false true true x p q e f = refl

form_named : (k : ℕ) (line : List ℕ) → form_fault k line ≡ None → is_continuation line ≡ false → is_field_name (name_of line) ≡ true
form_named k line e f = chain (is_continuation line) (list_any (λ b. eqb b 58) line) (is_field_name (name_of line)) (cond (eqb k 1) (Some (ContinuationFirst k)) None) (NoColon k) (BadName k) e f

-- lines without a fault have fields of their form
pub fields_formed : (limit k w : ℕ) (ls : List (List ℕ)) → first_fault limit k w ls ≡ None → list_all lacks ls ≡ true → list_all is_field (fields_of ls) ≡ true
fields_formed limit k w [] e h = refl
fields_formed limit k w (line ∷ ls) e h =
    let p = and_parts (lacks line) (list_all lacks ls) h in
    let faults = or_none (line_fault limit k w line) (first_fault limit (k + 1) (w + added_by line) ls) e in
    let form = (or_none (form_fault k line) _ faults.0).0 in
    let rest = fields_formed limit (k + 1) (w + added_by line) ls faults.1 p.1 in
    let body : List ℕ = after_colon line ++ continued ls in
    cond_both (is_continuation line) (fields_of ls) ((name_of line, body) ∷ fields_of ls) (λ fs. list_all is_field fs ≡ true)
    (λ _. rest)
    (λ f. and_from (is_field (name_of line, body)) (list_all is_field (fields_of ls))
    (and_from (is_field_name (name_of line)) (is_raw_body body) (form_named k line form f) (folded_over 58 (after_colon line) (continued ls) (Lacks-after_colon line p.0) (folded_rest ls p.1)))
    rest)

pub some_none : (x : HeadFault) → Some x ≡ None → ⊥
some_none x h = cc

-- lines without a fault are written in at most `limit` bytes
long_none : (limit n : ℕ) (fault : HeadFault) → cond (ltb limit n) (Some fault) None ≡ None → n ≤ limit
long_none limit n fault e =
    elim (cases_Bool (ltb limit n)) [
      | inl long ↦ absurd (some_none fault (sym (cond-true (ltb limit n) (Some fault) None long) ∙ e))
      | inr short ↦ ltb-false limit n short
    ]

pub fields_short : (limit k w : ℕ) (ls : List (List ℕ)) → w ≤ limit → first_fault limit k w ls ≡ None → w + length (continued ls) + length (written (fields_of ls)) ≤ limit
fields_short limit k w [] le e = omega arith
fields_short limit k w (line ∷ ls) le e =
    let faults = or_none (line_fault limit k w line) (first_fault limit (k + 1) (w + added_by line) ls) e in
    let short : w + added_by line ≤ limit = long_none limit (w + added_by line) (TooLong k) ((or_none (form_fault k line) (cond (ltb limit (w + added_by line)) (Some (TooLong k)) None) faults.0).1) in
    let rest = fields_short limit (k + 1) (w + added_by line) ls short faults.1 in
    let body : List ℕ = after_colon line ++ continued ls in
    let field : RawField = (name_of line, body) in
    elim (cases_Bool (is_continuation line)) [
      | inl c ↦
          let added : added_by line ≡ length line + 2 = cond-true (is_continuation line) (length line + 2) (length (name_of line) + length (after_colon line) + 3) c in
          let more : length (continued (line ∷ ls)) ≡ length line + 2 + length (continued ls) =
          ap length (cond-true (is_continuation line) ((13 ∷ 10 ∷ line) ++ continued ls) [] c) ∙ (omega (arith, length-append line (continued ls))) in
          let same : length (written (fields_of (line ∷ ls))) ≡ length (written (fields_of ls)) = ap (λ (fs : List RawField). length (written fs)) (cond-true (is_continuation line) (fields_of ls) (field ∷ fields_of ls) c) in
          omega (arith, added, more, same, rest)
      | inr c ↦
          let added : added_by line ≡ length (name_of line) + length (after_colon line) + 3 = cond-false (is_continuation line) (length line + 2) (length (name_of line) + length (after_colon line) + 3) c in
          let more : length (continued (line ∷ ls)) ≡ 0 = ap length (cond-false (is_continuation line) ((13 ∷ 10 ∷ line) ++ continued ls) [] c) in
          let new : length (written (fields_of (line ∷ ls))) ≡ length (written (field ∷ fields_of ls)) = ap (λ (fs : List RawField). length (written fs)) (cond-false (is_continuation line) (fields_of ls) (field ∷ fields_of ls) c) in
          let len = length-append (name_of line) ((58 ∷ body) ++ ((13 ∷ 10 ∷ []) ++ written (fields_of ls))) in
          omega (arith, added, more, new, len, length-append body ((13 ∷ 10 ∷ []) ++ written (fields_of ls)), length-append (after_colon line) (continued ls), rest)
    ]
