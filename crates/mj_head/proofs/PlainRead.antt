-- Plain lines at the front of a text stand in the written form as they are.
use Rattle.std.proofs.Common.{◌≡◌, ℕ, ◌+◌, ◌*◌, ◌<◌, ◌≤◌, Bool, true, false, not, ◌&&◌, ◌||◌, eqb, inl, inr, List, [], ◌∷◌, ◌++◌, length, take, drop, None, refl, sym, ap, subst, ◌∙◌, append_assoc, arith}
use Rattle.std.specs.List.{list_all, list_any, flat_map}
use Rattle.std.proofs.lemmas.Bool.{cond-false, cases_Bool, and_parts}
use Rattle.std.proofs.lemmas.List.{length-append, length-take, take-append-drop}
use Rattle.std.proofs.lemmas.Grind.{flat_map-append}
use Rattle.mj_head.specs.declared.cursor.Cursor.{Cursor}
use Rattle.mj_head.specs.Head.{lines, content, head_lines, body_place, before_colon, after_colon, is_continuation, is_field_name, added_by, form_fault, first_fault}
use Rattle.mj_head_lines.specs.Plain.{is_plain, with_ends, ArePlain}
use Rattle.mj_head.specs.Reading.{head_at, line_written, ReadsLines}
use Rattle.mj_head.proofs.Lines.{Lacks, lines_split, content_cr}
use Rattle.mj_head.proofs.Names.{around_colon}
use Rattle.mj_head.proofs.Changes.{list_all-append}
use Rattle.mj_head.proofs.Steps.{is_some_continued, form_continued, fault_step, length-line_written}
use Rattle.mj_head.proofs.Law.{IsLine, is_line, some_name}

-- what a plain line says
record SaysPlain (line : List ℕ) : Type 0 where
  lacks : Lacks 10 line
  some : eqb (length line) 0 ≡ false
  form : (k : ℕ) → 1 < k → form_fault k line ≡ None
  same : line_written line ≡ line ++ 13 ∷ 10 ∷ []

says_plain : (line : List ℕ) → is_plain line ≡ true → SaysPlain line
says_plain line h =
    let begins : Bool = is_field_name (before_colon line) && list_any (λ b. eqb b 58) line in
    let parts = and_parts (list_all (λ b. not (eqb b 10)) line) (is_continuation line || begins) h in
    elim (cases_Bool (is_continuation line)) [
      | inl e ↦ record { lacks = parts.0; some = is_some_continued line e; form = λ k later. form_continued k line e later; same = rw e refl }
      | inr e ↦
          let named = and_parts (is_field_name (before_colon line)) (list_any (λ b. eqb b 58) line) (sym (ap (λ (b : Bool). b || begins) e) ∙ parts.1) in
          let whole = around_colon line named.1 in
          let l : IsLine (before_colon line) (after_colon line) line = subst (IsLine (before_colon line) (after_colon line)) (sym whole) (is_line (before_colon line) (after_colon line) named.0) in
          record {
            lacks = parts.0;
            some = ap (λ (t : List ℕ). eqb (length t) 0) whole ∙ some_name (before_colon line) (after_colon line);
            form = λ k later. l.form k;
            same = rw e (ap (λ (t : List ℕ). (t ++ 58 ∷ after_colon line) ++ 13 ∷ 10 ∷ []) l.name_is ∙ ap (λ (t : List ℕ). t ++ 13 ∷ 10 ∷ []) (sym whole));
          }
    ]

-- what plain lines in front of a text say
record PlainFront (ls : List (List ℕ)) (tail : List ℕ) : Type 0 where
  head : head_lines (lines (with_ends ls ++ tail)) ≡ ls ++ head_lines (lines tail)
  place : body_place (lines (with_ends ls ++ tail)) ≡ length (with_ends ls) + body_place (lines tail)
  fault : (k w : ℕ) → 1 < k → w + length (with_ends ls) ≤ 65536 → first_fault 65536 k w (ls ++ head_lines (lines tail)) ≡ first_fault 65536 (k + length ls) (w + length (with_ends ls)) (head_lines (lines tail))
  same : flat_map line_written ls ≡ with_ends ls
  short : 3 * length ls ≤ length (with_ends ls)

some_length : (line : List ℕ) → eqb (length line) 0 ≡ false → 0 < length line
some_length [] e = absurd cc
some_length (b ∷ line) e = omega arith

plain_front : (ls : List (List ℕ)) (tail : List ℕ) → list_all is_plain ls ≡ true → PlainFront ls tail
plain_front [] tail h = record {
  head = refl;
  place = omega arith;
  fault = λ k w later short. ap (λ n. first_fault 65536 n w (head_lines (lines tail))) (omega arith) ∙ ap (λ n. first_fault 65536 (k + 0) n (head_lines (lines tail))) (omega arith);
  same = refl;
  short = omega arith;
}
plain_front (line ∷ ls) tail h =
    let parts = and_parts (is_plain line) (list_all is_plain ls) h in
    let s = says_plain line parts.0 in
    let f = plain_front ls tail parts.1 in
    let more : List ℕ = with_ends ls ++ tail in
    let whole : List ℕ = (line ++ 13 ∷ []) ++ 10 ∷ [] in
    let ended : line ++ 13 ∷ 10 ∷ [] ≡ whole = sym (append_assoc line (13 ∷ []) (10 ∷ [])) in
    let len : length (line ++ 13 ∷ 10 ∷ []) ≡ length line + 2 = length-append line (13 ∷ 10 ∷ []) in
    let front : with_ends (line ∷ ls) ++ tail ≡ (line ++ 13 ∷ []) ++ 10 ∷ more =
    append_assoc (line ++ 13 ∷ 10 ∷ []) (with_ends ls) tail
    ∙ append_assoc line (13 ∷ 10 ∷ []) more
    ∙ sym (append_assoc line (13 ∷ []) (10 ∷ more)) in
    let split : lines (with_ends (line ∷ ls) ++ tail) ≡ whole ∷ lines more = ap lines front ∙ lines_split (line ++ 13 ∷ []) more (Lacks-push line s.lacks) in
    let said : content whole ≡ line = content_cr line in
    let some : eqb (length (content whole)) 0 ≡ false = ap (λ (t : List ℕ). eqb (length t) 0) said ∙ s.some in
    let adds : added_by line ≡ length line + 2 = sym (length-line_written line) ∙ ap length s.same ∙ len in
    let all : length (with_ends (line ∷ ls)) ≡ length line + 2 + length (with_ends ls) = omega (arith, length-append (line ++ 13 ∷ 10 ∷ []) (with_ends ls), len) in
    record {
      head =
          ap head_lines split
          ∙ cond-false (eqb (length (content whole)) 0) [] (content whole ∷ head_lines (lines more)) some
          ∙ ap (λ (t : List ℕ). t ∷ head_lines (lines more)) said
          ∙ ap (λ (t : List (List ℕ)). line ∷ t) f.head;
      place = omega (
        arith,
        ap body_place split ∙ cond-false (eqb (length (content whole)) 0) (length whole) (length whole + body_place (lines more)) some,
        ap length ended,
        len,
        all,
        f.place,
      );
      fault = λ k w later short.
          fault_step 65536 k w line (ls ++ head_lines (lines tail)) (s.form k later) (omega (arith, adds, all, short))
          ∙ f.fault (k + 1) (w + added_by line) (omega arith) (omega (arith, adds, all, short))
          ∙ ap (λ n. first_fault 65536 n (w + added_by line + length (with_ends ls)) (head_lines (lines tail))) (omega arith)
          ∙ ap (λ n. first_fault 65536 (k + length (line ∷ ls)) n (head_lines (lines tail))) (omega (arith, adds, all));
      same = ap (λ (t : List ℕ). t ++ flat_map line_written ls) s.same ∙ ap (λ (t : List ℕ). (line ++ 13 ∷ 10 ∷ []) ++ t) f.same;
      short = omega (arith, all, f.short, some_length line s.some);
    } where
      Lacks-push : (line : List ℕ) → Lacks 10 line → Lacks 10 (line ++ 13 ∷ [])
      Lacks-push line h = list_all-append (λ b. not (eqb b 10)) line (13 ∷ []) h refl

-- each plain line has three bytes at least
pub plain_short : (text : List ℕ) (len count : ℕ) → len ≤ length text → ArePlain text len count → 3 * count ≤ len
plain_short text len count within p =
    let f = plain_front p.lines [] p.plain in
    omega (arith, f.short, ap length p.front, length-take len text, p.number)

-- plain lines were read
pub plain_read : (old new : List ℕ) (from to : Cursor) (len count : ℕ) → ArePlain from.rest.now len count → len ≤ length from.rest.now → 1 < from.line → to.rest.now ≡ drop len from.rest.now → to.line ≡ from.line + count → to.written ≡ from.written + len → new ≡ old ++ take len from.rest.now → ReadsLines old new from to
plain_read old new from to len count p within later rest next added text =
    let ls = p.lines in
    let tail : List ℕ = to.rest.now in
    let f = plain_front ls tail p.plain in
    let whole : from.rest.now ≡ with_ends ls ++ tail = sym (take-append-drop len from.rest.now) ∙ ap (λ (t : List ℕ). t ++ drop len from.rest.now) p.front ∙ ap (λ (t : List ℕ). with_ends ls ++ t) (sym rest) in
    let all : length (with_ends ls) ≡ len = omega (arith, ap length p.front, length-take len from.rest.now) in
    let head : head_at from ≡ ls ++ head_at to = ap (λ (t : List ℕ). head_lines (lines t)) whole ∙ f.head in
    record {
      fault =
          ap (first_fault 65536 from.line from.written) head
          ∙ f.fault from.line from.written later (omega (arith, all, added, to.short))
          ∙ ap (λ n. first_fault 65536 n (from.written + length (with_ends ls)) (head_at to)) (omega (arith, next, p.number))
          ∙ ap (λ n. first_fault 65536 to.line n (head_at to)) (omega (arith, all, added));
      place = omega (arith, ap (λ (t : List ℕ). body_place (lines t)) whole, f.place, ap length whole, length-append (with_ends ls) tail);
      text =
          ap (λ (h : List (List ℕ)). old ++ flat_map line_written h) head
          ∙ ap (λ (t : List ℕ). old ++ t) (flat_map-append line_written ls (head_at to) ∙ ap (λ (t : List ℕ). t ++ flat_map line_written (head_at to)) (f.same ∙ sym p.front))
          ∙ sym (append_assoc old (take len from.rest.now) (flat_map line_written (head_at to)))
          ∙ ap (λ (t : List ℕ). t ++ flat_map line_written (head_at to)) (sym text);
      len = omega (arith, added, ap length text, length-append old (take len from.rest.now), length-take len from.rest.now);
    }
