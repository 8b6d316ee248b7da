-- What a head's written form is read as: alone, and with an empty line behind it, whatever follows.
use Rattle.std.proofs.Common.{get_or, take, drop, ◌≡◌, ℕ, suc, ◌+◌, ◌<◌, ◌≤◌, Bool, true, false, not, ◌&&◌, cond, eqb, leb, inl, inr, List, [], ◌∷◌, ◌++◌, length, Option, Some, None, Ok, refl, sym, ap, subst, ◌∙◌, append_assoc, arith}
use Rattle.std.specs.List.{list_all, list_any}
use Rattle.std.proofs.lemmas.Bool.{cond-true, cond-false, cases_Bool, and_parts, or_from, and_from, not_from_false, eqb-true, leb-true, not-true, ne_eqb, false≢true}
use Rattle.std.proofs.lemmas.List.{length-append, append-nil, take-append-drop, drop_more, length-take}
use Rattle.mj_terms.specs.Text.{is_blank, trim_back}
use Rattle.mj_head.specs.declared.fault.HeadFault.{HeadFault}
use Rattle.mj_head.specs.declared.fault.HeadFault.TheVariants.{ContinuationFirst, NoColon, BadName}
use Rattle.mj_head.specs.Head.{RawField, lines, lengthened, content, is_line_end, head_lines, body_place, is_continuation, begins_blank, after_colon, name_of, is_name_byte, is_field_name, is_folded, is_raw_body, is_field, is_head, continued, fields_of, fields_in, written, IsWritten, added_by, form_fault, first_fault, unless, head_of}
use Rattle.mj_head.specs.Fields.{IsSomeHead}
use Rattle.mj_head.specs.Reading.{begins_continued, BeginsField}
use Rattle.mj_head.proofs.Lines.{Lacks, Lacks-cons, Lacks-first, Lacks-rest, cases_last}
use Rattle.mj_head.proofs.Names.{has_colon, before_colon_at, after_colon_at, trim_back_at}
use Rattle.mj_head.proofs.Steps.{begins, no_end, no_zero, form_continued, added_continued, is_some_continued, fault_step}
use Rattle.mj_head.proofs.Forms.{lines_lack, fields_formed, fields_short}
use Rattle.mj_head.proofs.Changes.{head_fields, head_short, is_head_from, list_all_parts, length-written-cons, written-append, length-written_push, is_head_push}

-- lines of a raw body, CRLF and what follows
record Shows (body tail : List ℕ) (ls : List (List ℕ)) : Type 0 where
  whole : List ℕ
  more : List (List ℕ)
  split : ls ≡ whole ∷ more
  inner : (a : ℕ) → is_line_end (a ∷ whole) ≡ false
  short : length (content whole) ≤ length body
  said : content whole ++ continued (head_lines more) ≡ body ++ continued (head_lines (lines tail))
  fields : fields_of (head_lines more) ≡ fields_of (head_lines (lines tail))
  place : length whole + body_place more ≡ length body + 2 + body_place (lines tail)
  fault : (limit k w w' : ℕ) → 1 < k → w' + length (content whole) ≡ w + length body → w' ≤ limit → ((j : ℕ) → 1 < j → first_fault limit j w' (head_lines (lines tail)) ≡ None) → first_fault limit k w (head_lines more) ≡ None

-- no body: the rest of the line is its end
shows_end : (tail : List ℕ) → Shows [] tail (lines (13 ∷ 10 ∷ tail))
shows_end tail = record {
  whole = 13 ∷ 10 ∷ [];
  more = lines tail;
  split = refl;
  inner = λ a. refl;
  short = omega arith;
  said = refl;
  fields = refl;
  place = omega arith;
  fault = λ limit k w w' later same le none. let e : w' ≡ w = omega arith in ap (λ n. first_fault limit k n (head_lines (lines tail))) (sym e) ∙ none k later;
}

-- a byte more in front of the first line
shows_byte : (b : ℕ) (body tail text : List ℕ) → eqb b 10 ≡ false → Shows body tail (lines text) → Shows (b ∷ body) tail (lines (b ∷ text))
shows_byte b body tail text e h =
    let front : content (b ∷ h.whole) ≡ b ∷ content h.whole = cond-false (is_line_end (b ∷ h.whole)) [] (b ∷ content h.whole) (h.inner b) in
    let len : length (content (b ∷ h.whole)) ≡ suc (length (content h.whole)) = ap length front in
    record {
      whole = b ∷ h.whole;
      more = h.more;
      split = cond-false (eqb b 10) ((b ∷ []) ∷ lines text) (lengthened b (lines text)) e ∙ ap (lengthened b) h.split;
      inner = λ a. no_end a b h.whole e;
      short = omega (arith, len, h.short);
      said = ap (λ (t : List ℕ). t ++ continued (head_lines h.more)) front ∙ ap (λ (t : List ℕ). b ∷ t) h.said;
      fields = h.fields;
      place = omega (arith, h.place);
      fault = λ limit k w w' later same le none. h.fault limit k w w' later (omega (arith, len)) le none;
    }

pub blank_front : (body tail : List ℕ) → begins_blank body ≡ true → begins_blank (body ++ tail) ≡ true
blank_front [] tail e = absurd (false≢true e)
blank_front (b ∷ body) tail e = e

-- CRLF before a blank: the line ends, and the next one continues the field
shows_fold : (body tail : List ℕ) → begins_blank body ≡ true → Shows body tail (lines (body ++ 13 ∷ 10 ∷ tail)) → Shows (13 ∷ 10 ∷ body) tail (lines (13 ∷ 10 ∷ (body ++ 13 ∷ 10 ∷ tail)))
shows_fold body tail blank h =
    let text : List ℕ = body ++ 13 ∷ 10 ∷ tail in
    let line : List ℕ = content h.whole in
    let continues : is_continuation line ≡ true = sym (ap begins_continued h.split) ∙ sym (begins text) ∙ blank_front body (13 ∷ 10 ∷ tail) blank in
    let some : eqb (length line) 0 ≡ false = is_some_continued line continues in
    let head : head_lines (lines text) ≡ line ∷ head_lines h.more = ap head_lines h.split ∙ cond-false (eqb (length line) 0) [] (line ∷ head_lines h.more) some in
    let at : body_place (lines text) ≡ length h.whole + body_place h.more = ap body_place h.split ∙ cond-false (eqb (length line) 0) (length h.whole) (length h.whole + body_place h.more) some in
    record {
      whole = 13 ∷ 10 ∷ [];
      more = lines text;
      split = refl;
      inner = λ a. refl;
      short = omega arith;
      said =
          ap continued head
          ∙ cond-true (is_continuation line) ((13 ∷ 10 ∷ line) ++ continued (head_lines h.more)) [] continues
          ∙ ap (λ (t : List ℕ). 13 ∷ 10 ∷ t) h.said;
      fields = ap fields_of head ∙ cond-true (is_continuation line) (fields_of (head_lines h.more)) _ continues ∙ h.fields;
      place = omega (arith, at, h.place);
      fault = λ limit k w w' later same le none.
          let added = added_continued line continues in
          ap (first_fault limit k w) head
          ∙ fault_step limit k w line (head_lines h.more) (form_continued k line continues later) (omega (arith, added, h.short, same, le))
          ∙ h.fault limit (k + 1) (w + added_by line) w' (omega arith) (omega (arith, added, same)) le none;
    }

starts_lf : List ℕ → Bool
starts_lf [] = false
starts_lf (b ∷ body) = eqb b 10

blank_no_lf : (body : List ℕ) → begins_blank body ≡ true → starts_lf body ≡ false
unfolding starts_lf
blank_no_lf [] e = refl
blank_no_lf (b ∷ body) e =
    elim (cases_Bool (eqb b 10)) [
      | inl lf ↦ absurd (false≢true (sym (ap is_blank (eqb-true b 10 lf)) ∙ e))
      | inr other ↦ other
    ]

shows : (before : ℕ) (body tail : List ℕ) → is_folded before body ≡ true → starts_lf body ≡ false → Shows body tail (lines (body ++ 13 ∷ 10 ∷ tail))
unfolding starts_lf
shows before [] tail f s = shows_end tail
shows before (b ∷ []) tail f s = shows_byte b [] tail (13 ∷ 10 ∷ tail) s (shows_end tail)
shows before (b ∷ c ∷ body) tail f s =
    let rest : is_folded b (c ∷ body) ≡ true = (and_parts (cond (eqb b 10) (eqb before 13 && begins_blank (c ∷ body)) true) (is_folded b (c ∷ body)) f).1 in
    elim (cases_Bool (eqb c 10)) [
      | inl lf ↦
          let parts = and_parts (cond (eqb c 10) (eqb b 13 && begins_blank body) true) (is_folded c body) rest in
          let pair = and_parts (eqb b 13) (begins_blank body) (sym (cond-true (eqb c 10) (eqb b 13 && begins_blank body) true lf) ∙ parts.0) in
          let P : List ℕ → Type 0 = λ front. Shows (front ++ body) tail (lines ((front ++ body) ++ 13 ∷ 10 ∷ tail)) in
          let same : 13 ∷ 10 ∷ [] ≡ b ∷ c ∷ [] = ap (λ x. x ∷ 10 ∷ []) (sym (eqb-true b 13 pair.0)) ∙ ap (λ x. b ∷ x ∷ []) (sym (eqb-true c 10 lf)) in
          subst P same (shows_fold body tail pair.1 (shows c body tail parts.1 (blank_no_lf body pair.1)))
      | inr other ↦ shows_byte b (c ∷ body) tail ((c ∷ body) ++ 13 ∷ 10 ∷ tail) s (shows b (c ∷ body) tail rest other)
    ]

-- ---- the name before it

pub name_byte_parts : (b : ℕ) → is_name_byte b ≡ true → (33 ≤ b) × (eqb b 58 ≡ false)
name_byte_parts b h =
    let outer = and_parts (leb 33 b && leb b 126) (not (eqb b 58)) h in
    let low = and_parts (leb 33 b) (leb b 126) outer.0 in
    (leb-true 33 b low.0, not-true (eqb b 58) outer.1)

pub name_lacks : (c : ℕ) (name : List ℕ) → ((b : ℕ) → is_name_byte b ≡ true → eqb b c ≡ false) → list_all is_name_byte name ≡ true → Lacks c name
name_lacks c [] each h = refl
name_lacks c (b ∷ name) each h =
    let parts = and_parts (is_name_byte b) (list_all is_name_byte name) h in
    Lacks-cons c b name (each b parts.0) (name_lacks c name each parts.1)

pub no_lf_byte : (b : ℕ) → is_name_byte b ≡ true → eqb b 10 ≡ false
no_lf_byte b h = ne_eqb b 10 (λ e. absurd (omega (arith, (name_byte_parts b h).0)))

not_blank_byte : (b : ℕ) → is_name_byte b ≡ true → is_blank b ≡ false
not_blank_byte b h =
    or_from (eqb b 32) (eqb b 9) (ne_eqb b 32 (λ e. absurd (omega (arith, (name_byte_parts b h).0)))) (ne_eqb b 9 (λ e. absurd (omega (arith, (name_byte_parts b h).0))))

last_of : (p : ℕ → Bool) (xs : List ℕ) (x : ℕ) → list_all p (xs ++ x ∷ []) ≡ true → p x ≡ true
last_of p [] x h = (and_parts (p x) true h).0
last_of p (y ∷ xs) x h = last_of p xs x (and_parts (p y) (list_all p (xs ++ x ∷ [])) h).1

trim_back_name : (name : List ℕ) → list_all is_name_byte name ≡ true → trim_back name ≡ name
trim_back_name name h =
    elim (cases_last name) [
      | inl e ↦ rw e refl
      | inr s ↦
          let last = last_of is_name_byte s.0 s.1 (ap (list_all is_name_byte) (sym s.2) ∙ h) in
          ap trim_back (s.2 ∙ sym (append-nil (s.0 ++ s.1 ∷ []))) ∙ trim_back_at s.0 [] s.1 (not_blank_byte s.1 last) refl ∙ sym s.2
    ]

-- what a field's first line says
pub record IsLine (name value line : List ℕ) : Type 0 where
  pub begins : is_continuation line ≡ false
  pub name_is : name_of line ≡ name
  pub value_is : after_colon line ≡ value
  pub form : (k : ℕ) → form_fault k line ≡ None
  pub added : added_by line ≡ length name + length value + 3

no_blank_front : (name value : List ℕ) → is_field_name name ≡ true → is_continuation (name ++ 58 ∷ value) ≡ false
no_blank_front [] value h = absurd (false≢true h)
no_blank_front (b ∷ name) value h =
    not_blank_byte b (and_parts (is_name_byte b) (list_all is_name_byte name) (and_parts (not (eqb (length (b ∷ name)) 0)) (list_all is_name_byte (b ∷ name)) h).1).0

chain_none : (a c d : Bool) (x y z : Option HeadFault) → a ≡ false → c ≡ true → d ≡ true → cond a x (cond (not c) y (cond (not d) z None)) ≡ None
chain_none a c d x y z p q r = rw (p, q, r) refl

pub is_line : (name value : List ℕ) → is_field_name name ≡ true → IsLine name value (name ++ 58 ∷ value)
is_line name value h =
    let line : List ℕ = name ++ 58 ∷ value in
    let bytes : list_all is_name_byte name ≡ true = (and_parts (not (eqb (length name) 0)) (list_all is_name_byte name) h).1 in
    let colons : Lacks 58 name = name_lacks 58 name (λ b n. (name_byte_parts b n).1) bytes in
    let other : is_continuation line ≡ false = no_blank_front name value h in
    let name-is : name_of line ≡ name = ap trim_back (before_colon_at name value colons) ∙ trim_back_name name bytes in
    let value-is : after_colon line ≡ value = after_colon_at name value colons in
    record {
      begins = other;
      name_is = name-is;
      value_is = value-is;
      form = λ k. chain_none (is_continuation line) (list_any (λ b. eqb b 58) line) (is_field_name (name_of line)) (cond (eqb k 1) (Some (ContinuationFirst k)) None) (Some (NoColon k)) (Some (BadName k)) other (has_colon name value) (ap is_field_name name-is ∙ h);
      added =
          cond-false (is_continuation line) (length line + 2) (length (name_of line) + length (after_colon line) + 3) other
          ∙ ap (λ (t : List ℕ). length t + length (after_colon line) + 3) name-is
          ∙ ap (λ (t : List ℕ). length name + length t + 3) value-is;
    }

-- a first line with more bytes in front
record Prefixed (front text whole : List ℕ) (more : List (List ℕ)) : Type 0 where
  split : lines (front ++ text) ≡ (front ++ whole) ∷ more
  inner : (a : ℕ) → is_line_end (a ∷ (front ++ whole)) ≡ false
  said : content (front ++ whole) ≡ front ++ content whole

prefixed : (front text whole : List ℕ) (more : List (List ℕ)) → lines text ≡ whole ∷ more → ((a : ℕ) → is_line_end (a ∷ whole) ≡ false) → Lacks 10 front → Prefixed front text whole more
prefixed [] text whole more e i h = record { split = e; inner = i; said = refl }
prefixed (b ∷ front) text whole more e i h =
    let other = Lacks-first 10 b front h in
    let p = prefixed front text whole more e i (Lacks-rest 10 b front h) in
    record {
      split = cond-false (eqb b 10) ((b ∷ []) ∷ lines (front ++ text)) (lengthened b (lines (front ++ text))) other ∙ ap (lengthened b) p.split;
      inner = λ a. no_end a b (front ++ whole) other;
      said = cond-false (is_line_end (b ∷ (front ++ whole))) [] (b ∷ content (front ++ whole)) (p.inner b) ∙ ap (λ (t : List ℕ). b ∷ t) p.said;
    }

-- ---- whole heads

continued_none : (ls : List (List ℕ)) → begins_continued ls ≡ false → continued (head_lines ls) ≡ []
continued_none [] e = refl
continued_none (line ∷ ls) e =
    elim (cases_Bool (eqb (length (content line)) 0)) [
      | inl z ↦ ap continued (cond-true (eqb (length (content line)) 0) [] (content line ∷ head_lines ls) z)
      | inr z ↦ ap continued (cond-false (eqb (length (content line)) 0) [] (content line ∷ head_lines ls) z)
          ∙ cond-false (is_continuation (content line)) ((13 ∷ 10 ∷ content line) ++ continued (head_lines ls)) [] e
    ]

-- what the text is read as, where so many bytes of an empty line stand behind its fields
record Reads (fs : List RawField) (over : ℕ) (text : List ℕ) : Type 0 where
  fields : fields_in text ≡ fs
  place : body_place (lines text) ≡ length (written fs) + over
  begins : begins_continued (lines text) ≡ false
  fault : (limit k w : ℕ) → 0 < k → w + length (written fs) ≤ limit → first_fault limit k w (head_lines (lines text)) ≡ None

reads_none : Reads [] 0 []
reads_none = record { fields = refl; place = refl; begins = refl; fault = λ limit k w some le. refl }

reads_empty : (tail : List ℕ) → Reads [] 2 (13 ∷ 10 ∷ tail)
reads_empty tail = record { fields = refl; place = refl; begins = refl; fault = λ limit k w some le. refl }

pub some_name : (name value : List ℕ) → eqb (length (name ++ 58 ∷ value)) 0 ≡ false
some_name [] value = no_zero (length value)
some_name (b ∷ name) value = no_zero (length (name ++ 58 ∷ value))

folded_starts : (body : List ℕ) → is_raw_body body ≡ true → starts_lf body ≡ false
unfolding starts_lf
folded_starts [] h = refl
folded_starts (b ∷ body) h =
    elim (cases_Bool (eqb b 10)) [
      | inl lf ↦ absurd (false≢true (sym (cond-true (eqb b 10) (false && begins_blank body) true lf) ∙ (and_parts (cond (eqb b 10) (eqb 58 13 && begins_blank body) true) (is_folded b body) h).0))
      | inr other ↦ other
    ]

reads_field : (name body : List ℕ) (fs : List RawField) (over : ℕ) (tail : List ℕ) → is_field_name name ≡ true → is_raw_body body ≡ true → Reads fs over tail → Reads ((name, body) ∷ fs) over (name ++ 58 ∷ (body ++ 13 ∷ 10 ∷ tail))
reads_field name body fs over tail n b h =
    let text : List ℕ = body ++ 13 ∷ 10 ∷ tail in
    let s = shows 58 body tail b (folded_starts body b) in
    let value : List ℕ = content s.whole in
    let bytes : list_all is_name_byte name ≡ true = (and_parts (not (eqb (length name) 0)) (list_all is_name_byte name) n).1 in
    let colon = prefixed (58 ∷ []) text s.whole s.more s.split s.inner refl in
    let p = prefixed name (58 ∷ text) (58 ∷ s.whole) s.more colon.split colon.inner (name_lacks 10 name no_lf_byte bytes) in
    let line : List ℕ = name ++ 58 ∷ value in
    let said : content (name ++ 58 ∷ s.whole) ≡ line = p.said ∙ ap (λ (t : List ℕ). name ++ t) colon.said in
    let l = is_line name value n in
    let full : eqb (length (content (name ++ 58 ∷ s.whole))) 0 ≡ false = ap (λ (t : List ℕ). eqb (length t) 0) said ∙ some_name name value in
    let head : head_lines (lines (name ++ 58 ∷ text)) ≡ line ∷ head_lines s.more =
    ap head_lines p.split ∙ cond-false (eqb (length (content (name ++ 58 ∷ s.whole))) 0) [] (content (name ++ 58 ∷ s.whole) ∷ head_lines s.more) full ∙ ap (λ (t : List ℕ). t ∷ head_lines s.more) said in
    let at : body_place (lines (name ++ 58 ∷ text)) ≡ length (name ++ 58 ∷ s.whole) + body_place s.more =
    ap body_place p.split ∙ cond-false (eqb (length (content (name ++ 58 ∷ s.whole))) 0) (length (name ++ 58 ∷ s.whole)) (length (name ++ 58 ∷ s.whole) + body_place s.more) full in
    let whole-body : after_colon line ++ continued (head_lines s.more) ≡ body =
    ap (λ (t : List ℕ). t ++ continued (head_lines s.more)) l.value_is ∙ s.said ∙ ap (λ (t : List ℕ). body ++ t) (continued_none (lines tail) h.begins) ∙ append-nil body in
    record {
      fields =
          ap fields_of head
          ∙ cond-false (is_continuation line) (fields_of (head_lines s.more)) ((name_of line, after_colon line ++ continued (head_lines s.more)) ∷ fields_of (head_lines s.more)) l.begins
          ∙ ap (λ (t : List ℕ). (t, after_colon line ++ continued (head_lines s.more)) ∷ fields_of (head_lines s.more)) l.name_is
          ∙ ap (λ (t : List ℕ). (name, t) ∷ fields_of (head_lines s.more)) whole-body
          ∙ ap (λ (t : List RawField). (name, body) ∷ t) (s.fields ∙ h.fields);
      place = omega (arith, at, s.place, h.place, length-written-cons (name, body) fs, length-append name (58 ∷ s.whole));
      begins = ap begins_continued p.split ∙ ap is_continuation said ∙ l.begins;
      fault = λ limit k w some le.
          let len = length-written-cons (name, body) fs in
          let w' : ℕ = w + (length name + length body + 3) in
          ap (first_fault limit k w) head
          ∙ fault_step limit k w line (head_lines s.more) (l.form k) (omega (arith, l.added, len, s.short, le))
          ∙ s.fault limit (k + 1) (w + added_by line) w' (omega arith) (omega (arith, l.added)) (omega (arith, len, le)) (λ j later. h.fault limit j w' (omega arith) (omega (arith, len, le)));
    }

reads : (fs : List RawField) → list_all is_field fs ≡ true → (over : ℕ) (rest : List ℕ) → Reads [] over rest → Reads fs over (written fs ++ rest)
reads [] h over rest r = r
reads (f ∷ fs) h over rest r =
    let parts = and_parts (is_field f) (list_all is_field fs) h in
    let formed = and_parts (is_field_name f.0) (is_raw_body f.1) parts.0 in
    let regrouped : written (f ∷ fs) ++ rest ≡ f.0 ++ 58 ∷ (f.1 ++ 13 ∷ 10 ∷ (written fs ++ rest)) =
    append_assoc f.0 (58 ∷ (f.1 ++ 13 ∷ 10 ∷ written fs)) rest ∙ ap (λ (t : List ℕ). f.0 ++ 58 ∷ t) (append_assoc f.1 (13 ∷ 10 ∷ written fs) rest) in
    subst (Reads (f ∷ fs) over) (sym regrouped) (reads_field f.0 f.1 fs over (written fs ++ rest) formed.0 formed.1 (reads fs parts.1 over rest r))

-- the fields of a written form are those that were written
pub fields_in-written : (fs : List RawField) → list_all is_field fs ≡ true → fields_in (written fs) ≡ fs
fields_in-written fs h = ap fields_in (sym (append-nil (written fs))) ∙ (reads fs h 0 [] reads_none).fields

-- a written form begins with no blank
pub begins-written : (fs : List RawField) → list_all is_field fs ≡ true → begins_blank (written fs) ≡ false
begins-written fs h =
    begins (written fs) ∙ ap (λ (t : List ℕ). begins_continued (lines t)) (sym (append-nil (written fs))) ∙ (reads fs h 0 [] reads_none).begins

pub is_written : (text : List ℕ) (fs : List RawField) → text ≡ written fs → list_all is_field fs ≡ true → (fields_in text ≡ fs) × IsWritten text
is_written text fs e h =
    let fields : fields_in text ≡ fs = ap fields_in e ∙ fields_in-written fs h in
    (fields, record { same = ap written fields ∙ sym e; formed = ap (list_all is_field) fields ∙ h })

-- a text that is the written form of a head has this head
pub is_kept : (text : List ℕ) (fs : List RawField) → text ≡ written fs → is_head fs ≡ true → (fields_in text ≡ fs) × ((written (fields_in text) ≡ text) × (is_head (fields_in text) ≡ true))
is_kept text fs e h =
    let w = is_written text fs e (head_fields fs h) in
    (w.0, (w.1.same, ap is_head w.0 ∙ h))

-- so has the text with the written form of one more field at the end
pub is_kept_push : (text new : List ℕ) (f : RawField) → written (fields_in text) ≡ text → is_head (fields_in text) ≡ true → new ≡ text ++ written (f ∷ []) → is_field f ≡ true → length (written (fields_in text)) + (length f.0 + length f.1 + 3) ≤ 65536 → (fields_in new ≡ fields_in text ++ f ∷ []) × ((written (fields_in new) ≡ new) × (is_head (fields_in new) ≡ true))
is_kept_push text new f same h e formed short =
    is_kept new (fields_in text ++ f ∷ [])
    (e ∙ ap (λ (t : List ℕ). t ++ written (f ∷ [])) (sym same) ∙ sym (written-append (fields_in text) (f ∷ [])))
    (is_head_push (fields_in text) f h formed short)

-- a written head and an empty line are read as that head, whatever follows
pub read_again : (fs : List RawField) → is_head fs ≡ true → (tail : List ℕ) → head_of (written fs ++ 13 ∷ 10 ∷ tail) ≡ Ok (fs, length (written fs) + 2)
read_again fs h tail =
    let text : List ℕ = written fs ++ 13 ∷ 10 ∷ tail in
    let r = reads fs (head_fields fs h) 2 (13 ∷ 10 ∷ tail) (reads_empty tail) in
    let head = head_lines (lines text) in
    ap (λ (o : Option HeadFault). unless o (fields_of head, body_place (lines text))) (r.fault 65536 1 0 (omega arith) (omega (arith, head_short fs h)))
    ∙ ap (λ (gs : List RawField). unless None (gs, body_place (lines text))) r.fields
    ∙ ap (λ (n : ℕ). unless None (fs, n)) r.place

unless_ok : {X : Type 0} (o : Option HeadFault) (x y : X) → unless o x ≡ Ok y → (o ≡ None) × (x ≡ y)
unless_ok None x y e = (refl, cc)
unless_ok (Some fault) x y e = absurd cc

-- what some text is read as is a head
pub head_is_head : (text : List ℕ) (fs : List RawField) (place : ℕ) → head_of text ≡ Ok (fs, place) → is_head fs ≡ true
head_is_head text fs place e =
    let head = head_lines (lines text) in
    let u = unless_ok (first_fault 65536 1 0 head) (fields_of head, body_place (lines text)) (fs, place) e in
    let same : fields_of head ≡ fs = ap (λ (p : List RawField × ℕ). p.0) u.1 in
    ap is_head (sym same)
    ∙ is_head_from (fields_of head) (fields_formed 65536 1 0 head u.0 (lines_lack text)) (omega (arith, fields_short 65536 1 0 head (omega arith) u.0))

-- some text has a head exactly where it is one
pub some_head : (fs : List RawField) → is_head fs ≡ true → IsSomeHead fs
some_head fs h = (written fs ++ 13 ∷ 10 ∷ [], length (written fs) + 2, read_again fs h [])

pub some_head_is : (fs : List RawField) → IsSomeHead fs → is_head fs ≡ true
some_head_is fs h = head_is_head h.0 fs h.1 h.2

-- a head with one field more has that field in its form, and room for it
pub push_parts : (fs : List RawField) (f : RawField) → IsSomeHead (fs ++ f ∷ []) → (is_field f ≡ true) × (length (written fs) + (length f.0 + length f.1 + 3) ≤ 65536)
push_parts fs f h =
    let head = some_head_is (fs ++ f ∷ []) h in
    let parts = list_all_parts is_field fs (f ∷ []) (head_fields (fs ++ f ∷ []) head) in
    ((and_parts (is_field f) true parts.1).0, omega (arith, head_short (fs ++ f ∷ []) head, length-written_push fs f))

-- a line whose first bytes other than those of names are a colon
pub line_parts : (number : ℕ) (line : List ℕ) (end : ℕ) → 0 < end → end < length line → list_all is_name_byte (take end line) ≡ true → get_or line end 0 ≡ 58 → BeginsField number line (take end line) (drop (end + 1) line)
line_parts number line end some lt name colon =
    let whole : line ≡ take end line ++ 58 ∷ drop (end + 1) line =
    sym (take-append-drop end line) ∙ ap (λ (t : List ℕ). take end line ++ t) (drop_more line end 0 lt ∙ ap (λ b. b ∷ drop (end + 1) line) colon) in
    let named : is_field_name (take end line) ≡ true =
    and_from (not (eqb (length (take end line)) 0)) (list_all is_name_byte (take end line)) (not_from_false (eqb (length (take end line)) 0) (ne_eqb (length (take end line)) 0 (λ e. absurd (omega (arith, length-take end line))))) name in
    let l = is_line (take end line) (drop (end + 1) line) named in
    let parts : BeginsField number (take end line ++ 58 ∷ drop (end + 1) line) (take end line) (drop (end + 1) line) = record {
      form = l.form number;
      begins = l.begins;
      colon = has_colon (take end line) (drop (end + 1) line);
      name_is = l.name_is;
      value_is = l.value_is;
    } in
    subst (λ (t : List ℕ). BeginsField number t (take end line) (drop (end + 1) line)) (sym whole) parts
