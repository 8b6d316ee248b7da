-- The reader's loop: what was read so far, and what the whole text has.
use Rattle.std.proofs.Common.{◌≡◌, ℕ, ◌+◌, ◌≤◌, true, cond, eqb, ltb, inl, inr, List, [], ◌∷◌, ◌++◌, length, drop, Some, None, refl, sym, ap, ◌∙◌, append_assoc, arith}
use Rattle.std.specs.List.{flat_map}
use Rattle.std.proofs.lemmas.Bool.{cases_Bool, cond-true, cond-false, eqb-true}
use Rattle.std.proofs.lemmas.List.{append-nil, nil_from_length}
use Rattle.mj_head.specs.declared.cursor.Cursor.{Cursor}
use Rattle.mj_head.specs.declared.fault.HeadFault.TheVariants.{ContinuationFirst, TooLong}
use Rattle.mj_head.specs.Head.{lines, head_lines, body_place, is_continuation, after_colon, name_of, continued, fields_of, fields_in, written, added_by, form_fault, line_fault, first_fault, is_head}
use Rattle.mj_head.specs.Reading.{line_written, head_at, fault_from}
use Rattle.mj_head.proofs.Changes.{is_head_from}
use Rattle.mj_head.proofs.Forms.{or_none, some_none, lines_lack, fields_formed}

-- ---- what lines add to the written form

-- behind a field's last line comes CRLF, and it stands behind the line before as well
written_behind : (ls : List (List ℕ)) → continued ls ++ 13 ∷ 10 ∷ written (fields_of ls) ≡ 13 ∷ 10 ∷ flat_map line_written ls
written_behind [] = refl
written_behind (line ∷ ls) =
    let name : List ℕ = name_of line in
    let value : List ℕ = after_colon line in
    let rest : List ℕ = 13 ∷ 10 ∷ written (fields_of ls) in
    let more : List ℕ = flat_map line_written ls in
    elim (cases_Bool (is_continuation line)) [
      | inl e ↦ rw e (ap (λ (t : List ℕ). 13 ∷ 10 ∷ t) (append_assoc line (continued ls) rest ∙ ap (λ (t : List ℕ). line ++ t) (written_behind ls) ∙ sym (append_assoc line (13 ∷ 10 ∷ []) more)))
      | inr e ↦
          rw e (ap (λ (t : List ℕ). 13 ∷ 10 ∷ t) (
          ap (λ (t : List ℕ). name ++ 58 ∷ t) (append_assoc value (continued ls) rest ∙ ap (λ (t : List ℕ). value ++ t) (written_behind ls))
          ∙ sym (append_assoc name (58 ∷ value) (13 ∷ 10 ∷ more))
          ∙ sym (append_assoc (name ++ 58 ∷ value) (13 ∷ 10 ∷ []) more)
          ))
    ]

-- the written form is what the lines add, where the first of them continues no field
written_lines : (ls : List (List ℕ)) → continued ls ≡ [] → written (fields_of ls) ≡ flat_map line_written ls
written_lines ls e = ap (drop 2) (ap (λ (t : List ℕ). t ++ 13 ∷ 10 ∷ written (fields_of ls)) (sym e) ∙ written_behind ls)

-- lines without a fault begin with no continuation
begins_field : (limit w : ℕ) (ls : List (List ℕ)) → first_fault limit 1 w ls ≡ None → continued ls ≡ []
begins_field limit w [] e = refl
begins_field limit w (line ∷ ls) e =
    let faults = or_none (line_fault limit 1 w line) (first_fault limit 2 (w + added_by line) ls) e in
    let form : form_fault 1 line ≡ None = (or_none (form_fault 1 line) (cond (ltb limit (w + added_by line)) (Some (TooLong 1)) None) faults.0).0 in
    elim (cases_Bool (is_continuation line)) [
      | inl c ↦ absurd (some_none (ContinuationFirst 1) (sym (cond-true (is_continuation line) (Some (ContinuationFirst 1)) _ c) ∙ form))
      | inr c ↦ cond-false (is_continuation line) ((13 ∷ 10 ∷ line) ++ continued ls) [] c
    ]

-- ---- the loop

-- the lines of these bytes up to the cursor were read, and what they add to the written form is this text
pub record ReadSoFar (bytes text : List ℕ) (cursor : Cursor) : Type 0 where
  pub fault : first_fault 65536 1 0 (head_lines (lines bytes)) ≡ fault_from cursor
  pub place : body_place (lines bytes) + length cursor.rest.now ≡ length bytes + body_place (lines cursor.rest.now)
  pub adds : flat_map line_written (head_lines (lines bytes)) ≡ text ++ flat_map line_written (head_at cursor)
  pub len : length text ≡ cursor.written
  pub within : length cursor.rest.now ≤ length bytes

-- all lines: the text is the written form of the fields, and they are a head
pub head_read : (bytes text : List ℕ) (cursor : Cursor) → ReadSoFar bytes text cursor → eqb (length (head_at cursor)) 0 ≡ true → (text ≡ written (fields_in bytes)) × (is_head (fields_in bytes) ≡ true)
head_read bytes text cursor h over =
    let head = head_lines (lines bytes) in
    let nil : head_at cursor ≡ [] = nil_from_length (head_at cursor) (eqb-true (length (head_at cursor)) 0 over) in
    let fault : first_fault 65536 1 0 head ≡ None = h.fault ∙ ap (first_fault 65536 cursor.line cursor.written) nil in
    let same : text ≡ written (fields_in bytes) =
    sym (append-nil text)
    ∙ ap (λ ls. text ++ flat_map line_written ls) (sym nil)
    ∙ sym h.adds
    ∙ sym (written_lines head (begins_field 65536 0 head fault)) in (
      same,
      is_head_from (fields_in bytes) (fields_formed 65536 1 0 head fault (lines_lack bytes)) (omega (arith, ap length same, h.len, cursor.short)),
    )
