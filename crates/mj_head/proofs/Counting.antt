-- Each field of a written head ends at one LF.
use Rattle.std.proofs.Common.{◌≡◌, ℕ, ◌+◌, true, false, not, ◌&&◌, cond, eqb, inl, inr, List, [], ◌∷◌, ◌++◌, length, refl, sym, ap, ◌∙◌, arith}
use Rattle.std.specs.List.{list_all}
use Rattle.std.proofs.lemmas.Bool.{cond-true, cond-false, cases_Bool, and_parts, and_left, and_right}
use Rattle.mj_head_lines.specs.Ends.{field_ends}
use Rattle.mj_head.specs.Head.{RawField, begins_blank, is_name_byte, is_field_name, is_folded, is_raw_body, is_field, is_head, fields_in, written}
use Rattle.mj_head.proofs.Lines.{Lacks, Lacks-first, Lacks-rest}
use Rattle.mj_head.proofs.Law.{name_lacks, no_lf_byte, blank_front, begins-written}

-- none ends in bytes without LF
over : (front rest : List ℕ) → Lacks 10 front → field_ends (front ++ rest) ≡ field_ends rest
over [] rest h = refl
over (b ∷ front) rest h =
    let text : List ℕ = front ++ rest in
    let none = cond-false {A = ℕ} (eqb b 10 && not (begins_blank text)) 1 0 (and_left (eqb b 10) (not (begins_blank text)) (Lacks-first 10 b front h)) in
    omega (arith, none, over front rest (Lacks-rest 10 b front h))

-- one ends behind a raw body
behind_body : (before : ℕ) (body tail : List ℕ) → is_folded before body ≡ true → begins_blank tail ≡ false → field_ends (body ++ 13 ∷ 10 ∷ tail) ≡ 1 + field_ends tail
behind_body before [] tail folded begins =
    let one = cond-true {A = ℕ} (not (begins_blank tail)) 1 0 (ap not begins) in
    omega (arith, one)
behind_body before (b ∷ body) tail folded begins =
    let text : List ℕ = body ++ 13 ∷ 10 ∷ tail in
    let parts = and_parts (cond (eqb b 10) (eqb before 13 && begins_blank body) true) (is_folded b body) folded in
    let goes_on : (eqb b 10 && not (begins_blank text)) ≡ false =
    elim (cases_Bool (eqb b 10)) [
      | inl lf ↦
          let blank = (and_parts (eqb before 13) (begins_blank body) (sym (cond-true (eqb b 10) (eqb before 13 && begins_blank body) true lf) ∙ parts.0)).1 in
          and_right (eqb b 10) (not (begins_blank text)) (ap not (blank_front body (13 ∷ 10 ∷ tail) blank))
      | inr other ↦ and_left (eqb b 10) (not (begins_blank text)) other
    ] in
    let none = cond-false {A = ℕ} (eqb b 10 && not (begins_blank text)) 1 0 goes_on in
    omega (arith, none, behind_body b body tail parts.1 begins)

ends_written : (fields : List RawField) → list_all is_field fields ≡ true → field_ends (written fields) ≡ length fields
ends_written [] formed = refl
ends_written (field ∷ rest) formed =
    let parts = and_parts (is_field field) (list_all is_field rest) formed in
    let own = and_parts (is_field_name field.0) (is_raw_body field.1) parts.0 in
    let bytes = (and_parts (not (eqb (length field.0) 0)) (list_all is_name_byte field.0) own.0).1 in
    let body : List ℕ = field.1 ++ 13 ∷ 10 ∷ written rest in
    omega (
      arith,
      over field.0 (58 ∷ body) (name_lacks 10 field.0 no_lf_byte bytes),
      over (58 ∷ []) body refl,
      behind_body 58 field.1 (written rest) own.1 (begins-written rest parts.1),
      ends_written rest parts.1,
    )

-- as many end in the written form of a head as it has fields
pub count_ends : (text : List ℕ) → written (fields_in text) ≡ text → is_head (fields_in text) ≡ true → field_ends text ≡ length (fields_in text)
count_ends text same head =
    ap field_ends (sym same) ∙ ends_written (fields_in text) (and_parts (list_all is_field (fields_in text)) _ head).0
