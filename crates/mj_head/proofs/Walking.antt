-- The first field of a written form, by its text: its name ends at the first colon, and it ends at the first LF that no blank follows.
use Rattle.std.proofs.Common.{◌≡◌, ℕ, ◌+◌, ◌-◌, ◌≤◌, ◌⊎◌, Bool, true, false, not, ◌&&◌, cond, eqb, inl, inr, List, [], ◌∷◌, ◌++◌, length, take, drop, Some, None, refl, sym, ap, subst, ◌∙◌, arith}
use Rattle.std.specs.List.{list_all, list_any}
use Rattle.std.proofs.lemmas.Bool.{cond-true, cond-false, cases_Bool, and_parts, and_left, and_right, both_ways}
use Rattle.std.proofs.lemmas.List.{append-nil, length-take, take_at, take_rest, drop_at}
use Rattle.bstr.specs.Find.{IsFirstByte, is_byte}
use Rattle.mj_head.specs.Head.{RawField, before_colon, after_colon, begins_blank, is_name_byte, is_field_name, is_folded, is_raw_body, is_field, fields_in, written, IsWritten}
use Rattle.mj_head.specs.Reading.{field_len}
use Rattle.mj_head.proofs.Lines.{Lacks, Lacks-first, Lacks-rest, first_byte, none_pass}
use Rattle.mj_head.proofs.Names.{no_colon, has_colon, before_colon_at, after_colon_at}
use Rattle.mj_head.proofs.Changes.{length-written-cons, written-append}
use Rattle.mj_head.proofs.Law.{name_byte_parts, name_lacks, no_lf_byte, blank_front, begins-written, is_written}

-- ---- where the first field ends

field_len_over : (front rest : List ℕ) → Lacks 10 front → field_len (front ++ rest) ≡ length front + field_len rest
field_len_over [] rest h = omega arith
field_len_over (b ∷ front) rest h =
    let more = field_len_over front rest (Lacks-rest 10 b front h) in
    cond-false (eqb b 10 && not (begins_blank (front ++ rest))) 1 (field_len (front ++ rest) + 1) (and_left (eqb b 10) (not (begins_blank (front ++ rest))) (Lacks-first 10 b front h)) ∙ (omega arith)

field_len_lf : (text : List ℕ) (k : ℕ) → IsFirstByte (is_byte 10) text (Some k) → field_len text ≡ k + field_len (10 ∷ drop (k + 1) text)
field_len_lf text k h =
    let p = first_byte 10 text k h in
    omega (arith, ap field_len p.0, field_len_over (take k text) (10 ∷ drop (k + 1) text) p.1, length-take k text, h.0.high)

-- the first LF ends the field where no blank follows it
pub field_len_ends : (text : List ℕ) (k : ℕ) → IsFirstByte (is_byte 10) text (Some k) → begins_blank (drop (k + 1) text) ≡ false → field_len text ≡ k + 1
field_len_ends text k h e = field_len_lf text k h ∙ ap (λ (b : Bool). k + cond (not b) 1 (field_len (drop (k + 1) text) + 1)) e

-- and else the field goes on behind it
pub field_len_goes_on : (text : List ℕ) (k : ℕ) → IsFirstByte (is_byte 10) text (Some k) → begins_blank (drop (k + 1) text) ≡ true → field_len text ≡ k + 1 + field_len (drop (k + 1) text)
field_len_goes_on text k h e =
    field_len_lf text k h ∙ ap (λ (b : Bool). k + cond (not b) 1 (field_len (drop (k + 1) text) + 1)) e ∙ (omega arith)

-- all of a text without LF
pub field_len_last : (text : List ℕ) → IsFirstByte (is_byte 10) text None → field_len text ≡ length text
field_len_last text h = ap field_len (sym (append-nil text)) ∙ field_len_over text [] (none_pass (is_byte 10) text h) ∙ (omega arith)

field_len_body : (before : ℕ) (body tail : List ℕ) → is_folded before body ≡ true → begins_blank tail ≡ false → field_len (body ++ 13 ∷ 10 ∷ tail) ≡ length body + 2
field_len_body before [] tail f t = rw t refl
field_len_body before (b ∷ body) tail f t =
    let text : List ℕ = body ++ 13 ∷ 10 ∷ tail in
    let p = and_parts (cond (eqb b 10) (eqb before 13 && begins_blank body) true) (is_folded b body) f in
    let more = field_len_body b body tail p.1 t in
    let goes_on : (eqb b 10 && not (begins_blank text)) ≡ false =
    elim (cases_Bool (eqb b 10)) [
      | inl lf ↦
          let blank = (and_parts (eqb before 13) (begins_blank body) (sym (cond-true (eqb b 10) (eqb before 13 && begins_blank body) true lf) ∙ p.0)).1 in
          and_right (eqb b 10) (not (begins_blank text)) (ap not (blank_front body (13 ∷ 10 ∷ tail) blank))
      | inr other ↦ and_left (eqb b 10) (not (begins_blank text)) other
    ] in
    cond-false (eqb b 10 && not (begins_blank text)) 1 (field_len text + 1) goes_on ∙ (omega arith)

-- ---- the first field

name_bytes : (name : List ℕ) → is_field_name name ≡ true → list_all is_name_byte name ≡ true
name_bytes name h = (and_parts (not (eqb (length name) 0)) (list_all is_name_byte name) h).1

field_len-written : (f : RawField) (fs : List RawField) → is_field_name f.0 ≡ true → is_raw_body f.1 ≡ true → list_all is_field fs ≡ true → field_len (written (f ∷ fs)) ≡ length f.0 + length f.1 + 3
field_len-written f fs n b h =
    omega (
      arith,
      field_len_over f.0 (58 ∷ (f.1 ++ 13 ∷ 10 ∷ written fs)) (name_lacks 10 f.0 no_lf_byte (name_bytes f.0 n)),
      field_len_body 58 f.1 (written fs) b (begins-written fs h),
    )

cases_fields : (fs : List RawField) → (fs ≡ []) ⊎ ((f : RawField) × (more : List RawField) × (fs ≡ f ∷ more))
cases_fields [] = inl refl
cases_fields (f ∷ more) = inr (f, more, refl)

-- a written form without a colon has no field
pub no_field : (text : List ℕ) → IsWritten text → IsFirstByte (is_byte 58) text None → fields_in text ≡ []
no_field text w h =
    elim (cases_fields (fields_in text)) [
      | inl none ↦ none
      | inr some ↦
          let whole : text ≡ written (some.0 ∷ some.1) = sym w.same ∙ ap written some.2 in
          absurd (both_ways (list_any (λ b. eqb b 58) text) (no_colon text (none_pass (is_byte 58) text h)) (ap (list_any (λ b. eqb b 58)) whole ∙ has_colon some.0.0 (some.0.1 ++ 13 ∷ 10 ∷ written some.1)))
    ]

-- the first field of a text, whose first colon stands at this place, and those behind it
pub record IsFront (text : List ℕ) (name : ℕ) : Type 0 where
  pub field : RawField
  pub more : List RawField
  pub fields : fields_in text ≡ field ∷ more
  pub within : field_len text ≤ length text
  pub len : field_len text ≡ name + length field.1 + 3
  pub behind : field_len text ≡ name + 1 + field_len (drop (name + 1) text)
  pub name_is : take name text ≡ field.0
  pub body_is : take (length field.1) (drop (name + 1) text) ≡ field.1
  pub more_is : fields_in (drop (field_len text) text) ≡ more
  pub rest : IsWritten (drop (field_len text) text)

front_at : (text : List ℕ) (name : ℕ) (f : RawField) (more : List RawField) → fields_in text ≡ f ∷ more → IsWritten text → IsFirstByte (is_byte 58) text (Some name) → IsFront text name
front_at text name f more e w h =
    let whole : text ≡ written (f ∷ more) = sym w.same ∙ ap written e in
    let parts = and_parts (is_field f) (list_all is_field more) (ap (list_all is_field) (sym e) ∙ w.formed) in
    let formed = and_parts (is_field_name f.0) (is_raw_body f.1) parts.0 in
    let colons : Lacks 58 f.0 = name_lacks 58 f.0 (λ b n. (name_byte_parts b n).1) (name_bytes f.0 formed.0) in
    let value : List ℕ = f.1 ++ 13 ∷ 10 ∷ written more in
    let p = first_byte 58 text name h in
    let name-is : take name text ≡ f.0 =
    sym (ap before_colon p.0 ∙ before_colon_at (take name text) (drop (name + 1) text) p.1) ∙ ap before_colon whole ∙ before_colon_at f.0 value colons in
    let value-is : drop (name + 1) text ≡ value =
    sym (ap after_colon p.0 ∙ after_colon_at (take name text) (drop (name + 1) text) p.1) ∙ ap after_colon whole ∙ after_colon_at f.0 value colons in
    let lacks : Lacks 10 (take name text) = subst (Lacks 10) (sym name-is) (name_lacks 10 f.0 no_lf_byte (name_bytes f.0 formed.0)) in
    let behind-len : field_len text ≡ name + 1 + field_len (drop (name + 1) text) =
    omega (arith, ap field_len p.0, field_len_over (take name text) (58 ∷ drop (name + 1) text) lacks, length-take name text, h.0.high) in
    let name-len : length f.0 ≡ name = omega (arith, ap length name-is, length-take name text, h.0.high) in
    let len : field_len text ≡ name + length f.1 + 3 = ap field_len whole ∙ field_len-written f more formed.0 formed.1 parts.1 ∙ (omega (arith, name-len)) in
    let field : List ℕ = f.0 ++ ((58 ∷ f.1) ++ 13 ∷ 10 ∷ []) in
    let split : text ≡ field ++ written more =
    whole ∙ written-append (f ∷ []) more in
    let behind : drop (field_len text) text ≡ written more =
    ap (drop (field_len text)) split ∙ drop_at field (written more) (field_len text) (omega (arith, len, name-len, length-written-cons f [])) in
    let rest = is_written (drop (field_len text) text) more behind parts.1 in
    record {
      field = f;
      more = more;
      fields = e;
      within = omega (arith, len, name-len, ap length whole, length-written-cons f more);
      len = len;
      behind = behind-len;
      name_is = name-is;
      body_is = ap (take (length f.1)) value-is ∙ take_at f.1 (13 ∷ 10 ∷ written more) (length f.1) refl;
      more_is = rest.0;
      rest = rest.1;
    }

pub first_front : (text : List ℕ) (name : ℕ) → IsWritten text → IsFirstByte (is_byte 58) text (Some name) → IsFront text name
first_front text name w h =
    elim (cases_fields (fields_in text)) [
      | inl none ↦ absurd (omega (arith, ap length (sym w.same ∙ ap written none), h.0.high))
      | inr some ↦ front_at text name some.0 some.1 some.2 w h
    ]

-- the first field as its parts are cut out, and the fields of what stands behind it
pub next_field : (fields : List RawField) (text : List ℕ) (name len : ℕ) → fields_in text ≡ fields → IsFront text name → len ≡ field_len text → fields ≡ (take name text, take (len - 2 - (name + 1)) (drop (name + 1) text)) ∷ fields_in (take (length text - len) (drop len text))
next_field fields text name len view front field-len =
    let body-is : take (len - 2 - (name + 1)) (drop (name + 1) text) ≡ front.field.1 = ap (λ n. take n (drop (name + 1) text)) (omega (arith, front.len)) ∙ front.body_is in
    let rest-is : fields_in (take (length text - len) (drop len text)) ≡ front.more = rw (take_rest text len, field-len) front.more_is in
    sym view
    ∙ front.fields
    ∙ ap (λ (t : List ℕ). (t, front.field.1) ∷ front.more) (sym front.name_is)
    ∙ ap (λ (t : List ℕ). (take name text, t) ∷ front.more) (sym body-is)
    ∙ ap (λ (fs : List RawField). (take name text, take (len - 2 - (name + 1)) (drop (name + 1) text)) ∷ fs) (sym rest-is)
