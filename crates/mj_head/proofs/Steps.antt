-- One line of the reader, by what the definitions say of the whole text.
use Rattle.std.proofs.Common.{◌≡◌, ℕ, suc, ◌+◌, ◌<◌, ◌≤◌, Bool, true, false, cond, eqb, ltb, inl, inr, List, [], ◌∷◌, ◌++◌, length, Option, Some, None, refl, sym, ap, ◌∙◌, arith}
use Rattle.std.proofs.lemmas.Bool.{cond-true, cond-false, cases_Bool, eqb-true, ne_eqb, le-ltb, false≢true, and_right}
use Rattle.std.proofs.lemmas.List.{length-append}
use Rattle.mj_terms.specs.Text.{is_blank}
use Rattle.mj_head.specs.declared.fault.HeadFault.{HeadFault}
use Rattle.mj_head.specs.declared.fault.HeadFault.TheVariants.{ContinuationFirst, TooLong}
use Rattle.mj_head.specs.Head.{after_colon, name_of, lines, lengthened, content, is_line_end, is_continuation, begins_blank, added_by, form_fault, or_else, first_fault}
use Rattle.mj_head.specs.Reading.{begins_continued, line_written}

-- ---- what stands at the front

content_begins : (b : ℕ) (line : List ℕ) → is_continuation (content (b ∷ line)) ≡ is_blank b
content_begins b [] =
    elim (cases_Bool (eqb b 10)) [
      | inl e ↦ rw (e, eqb-true b 10 e) refl
      | inr e ↦ rw e refl
    ]
content_begins b (c ∷ []) =
    elim (cases_Bool (eqb b 13)) [
      | inl e ↦ rw (e, eqb-true b 13 e) (elim (cases_Bool (eqb c 10)) [ inl d ↦ rw d refl | inr d ↦ rw d refl ])
      | inr e ↦ rw e refl
    ]
content_begins b (c ∷ d ∷ line) = refl

lengthened_begins : (b : ℕ) (ls : List (List ℕ)) → begins_continued (lengthened b ls) ≡ is_blank b
lengthened_begins b [] = content_begins b []
lengthened_begins b (line ∷ ls) = content_begins b line

-- a text begins with a blank where its first line continues a field
pub begins : (text : List ℕ) → begins_blank text ≡ begins_continued (lines text)
begins [] = refl
begins (b ∷ text) =
    elim (cases_Bool (eqb b 10)) [
      | inl e ↦ sym (ap begins_continued (cond-true (eqb b 10) ((b ∷ []) ∷ lines text) (lengthened b (lines text)) e) ∙ content_begins b [])
      | inr e ↦ sym (ap begins_continued (cond-false (eqb b 10) ((b ∷ []) ∷ lines text) (lengthened b (lines text)) e) ∙ lengthened_begins b (lines text))
    ]

pub no_zero : (n : ℕ) → eqb (suc n) 0 ≡ false
no_zero n = ne_eqb (suc n) 0 (λ e. absurd (omega arith))

pub no_end : (a b : ℕ) (line : List ℕ) → eqb b 10 ≡ false → is_line_end (a ∷ b ∷ line) ≡ false
no_end a b [] e = and_right (eqb a 13) (eqb b 10) e
no_end a b (c ∷ line) e = refl

-- ---- a line without a fault

pub fault_step : (limit k w : ℕ) (line : List ℕ) (ls : List (List ℕ)) → form_fault k line ≡ None → w + added_by line ≤ limit → first_fault limit k w (line ∷ ls) ≡ first_fault limit (k + 1) (w + added_by line) ls
fault_step limit k w line ls e short =
    let later = first_fault limit (k + 1) (w + added_by line) ls in
    ap (λ (o : Option HeadFault). or_else (or_else o (cond (ltb limit (w + added_by line)) (Some (TooLong k)) None)) later) e
    ∙ ap (λ (b : Bool). or_else (cond b (Some (TooLong k)) None) later) (le-ltb limit (w + added_by line) short)

-- ---- continuations

pub is_some_continued : (line : List ℕ) → is_continuation line ≡ true → eqb (length line) 0 ≡ false
is_some_continued [] e = absurd (false≢true e)
is_some_continued (b ∷ line) e = no_zero (length line)

pub added_continued : (line : List ℕ) → is_continuation line ≡ true → added_by line ≡ length line + 2
added_continued line e = cond-true (is_continuation line) (length line + 2) _ e

pub form_continued : (k : ℕ) (line : List ℕ) → is_continuation line ≡ true → 1 < k → form_fault k line ≡ None
form_continued k line e later =
    cond-true (is_continuation line) (cond (eqb k 1) (Some (ContinuationFirst k)) None) _ e ∙ cond-false (eqb k 1) (Some (ContinuationFirst k)) None (ne_eqb k 1 (λ one. absurd (omega arith)))

-- ---- what a line adds

-- what a line adds to the written form has as many bytes as it counts
pub length-line_written : (line : List ℕ) → length (line_written line) ≡ added_by line
length-line_written line =
    elim (cases_Bool (is_continuation line)) [
      | inl e ↦ rw e (length-append line (13 ∷ 10 ∷ []))
      | inr e ↦ rw e (omega (arith, length-append (name_of line ++ 58 ∷ after_colon line) (13 ∷ 10 ∷ []), length-append (name_of line) (58 ∷ after_colon line)))
    ]
