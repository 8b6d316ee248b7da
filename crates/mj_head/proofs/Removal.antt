-- Taking fields out of a written form: those that stay move up, one after another.
use Rattle.std.proofs.Common.{◌≡◌, ℕ, ◌+◌, ◌-◌, ◌<◌, ◌≤◌, Bool, true, false, not, List, [], ◌∷◌, ◌++◌, length, take, drop, refl, sym, ap, ◌∙◌, append_assoc, arith}
use Rattle.std.specs.Prelude.{filter}
use Rattle.std.specs.List.{list_all, copy_within}
use Rattle.std.proofs.lemmas.Bool.{cond-true, cond-false, and_parts}
use Rattle.std.proofs.lemmas.List.{append-nil, length-append, length-take, length-drop, take_at, drop_at, drop-drop, drop_all, take_rest}
use Rattle.mj_head.specs.Head.{RawField, is_field, written, fields_in, IsWritten}
use Rattle.mj_head.specs.Fields.{is_named}
use Rattle.mj_head.specs.Reading.{IsFirstField}
use Rattle.mj_head.proofs.Changes.{written-append, length-written-cons}
use Rattle.mj_head.proofs.Law.{is_written}

-- whether a field has another name
abbrev pub others : List ℕ → RawField → Bool
others name field = not (is_named name field)

-- so many bytes passed: the fields that stay are at the front of the text, and the others behind
pub record Closing (p : RawField → Bool) (fs : List RawField) (text : List ℕ) (from kept : ℕ) : Type 0 where
  pub stay : List RawField
  pub rest : List RawField
  pub all : stay ++ filter p rest ≡ filter p fs
  pub text_stay : take kept text ≡ written stay
  pub text_rest : drop from text ≡ written rest
  pub formed : list_all is_field rest ≡ true
  pub behind : kept ≤ from
  pub within : from ≤ length text

pub closing_start : (p : RawField → Bool) (text : List ℕ) → IsWritten text → Closing p (fields_in text) text 0 0
closing_start p text h = record {
  stay = [];
  rest = fields_in text;
  all = refl;
  text_stay = refl;
  text_rest = sym h.same;
  formed = h.formed;
  behind = omega arith;
  within = omega arith;
}

-- the fields that are left are in their written form
pub closing_rest : (p : RawField → Bool) (fs : List RawField) (text whole : List ℕ) (from kept : ℕ) → Closing p fs text from kept → whole ≡ text → IsWritten (take (length whole - from) (drop from whole))
closing_rest p fs text whole from kept h same =
    rw (take_rest whole from, same) ((is_written (drop from text) h.rest h.text_rest h.formed).1)

written_none : (fs : List RawField) → written fs ≡ [] → fs ≡ []
written_none [] e = refl
written_none (f ∷ fs) e = absurd (omega (arith, ap length e, length-written-cons f fs))

pub closing_end : (p : RawField → Bool) (fs : List RawField) (text : List ℕ) (from kept : ℕ) → Closing p fs text from kept → length text ≤ from → take kept text ≡ written (filter p fs)
closing_end p fs text from kept h over =
    let none : h.rest ≡ [] = written_none h.rest (sym h.text_rest ∙ drop_all from text over) in
    h.text_stay ∙ ap written (sym (append-nil h.stay) ∙ ap (λ gs. h.stay ++ filter p gs) (sym none) ∙ h.all)

-- ---- one field

-- the next field, of so many bytes, goes where it has the name, and else it stays
pub record Next (name : List ℕ) (fs : List RawField) (text : List ℕ) (named : Bool) (from kept len : ℕ) : Type 0 where
  pub some : 0 < len
  pub within : from + len ≤ length text
  pub goes : named ≡ true → Closing (others name) fs text (from + len) kept
  pub stays : named ≡ false → Closing (others name) fs (copy_within text from (from + len) kept) (from + len) (kept + len)

moved_front : (text : List ℕ) (from n kept_len : ℕ) → kept_len ≤ from → from + n ≤ length text → length (take kept_len text ++ take n (drop from text)) ≡ kept_len + n
moved_front text from n kept_len le within =
    omega (arith, length-append (take kept_len text) (take n (drop from text)), length-take kept_len text, length-take n (drop from text), length-drop from text)

-- the bytes from a place on, behind what is moved in front of it
moved_rest : (text front : List ℕ) (end k : ℕ) → length front ≡ k → k ≤ end → drop end (front ++ drop k text) ≡ drop end text
moved_rest text front end k len le =
    let n = end - k in
    let sum : end ≡ k + n = omega arith in
    ap (λ i. drop i (front ++ drop k text)) sum
    ∙ sym (drop-drop n k (front ++ drop k text))
    ∙ ap (drop n) (drop_at front (drop k text) k len)
    ∙ drop-drop n k text
    ∙ ap (λ i. drop i text) (sym sum)

-- one field passed
record Passed (p : RawField → Bool) (fs : List RawField) (text : List ℕ) (f : RawField) (from kept len : ℕ) : Type 0 where
  some : 0 < len
  within : from + len ≤ length text
  goes : p f ≡ false → Closing p fs text (from + len) kept
  stays : p f ≡ true → Closing p fs (copy_within text from (from + len) kept) (from + len) (kept + len)

passed : (p : RawField → Bool) (fs : List RawField) (text : List ℕ) (from kept len : ℕ) (h : Closing p fs text from kept) (f : RawField) (more : List RawField) → h.rest ≡ f ∷ more → len + length (written more) ≡ length (drop from text) → Passed p fs text f from kept len
passed p fs text from kept len h f more e bytes =
    let end = from + len in
    let all : h.stay ++ filter p (f ∷ more) ≡ filter p fs = ap (λ gs. h.stay ++ filter p gs) (sym e) ∙ h.all in
    let formed = and_parts (is_field f) (list_all is_field more) (ap (list_all is_field) (sym e) ∙ h.formed) in
    let one : List ℕ = written (f ∷ []) in
    let text_rest : drop from text ≡ one ++ written more = h.text_rest ∙ ap written e ∙ written-append (f ∷ []) more in
    let one-len : length one ≡ len = omega (arith, ap length text_rest, length-append one (written more), bytes) in
    let within : end ≤ length text = omega (arith, bytes, length-drop from text, h.within) in
    let behind : drop end text ≡ written more =
    ap (λ i. drop i text) (omega arith) ∙ sym (drop-drop len from text) ∙ ap (drop len) text_rest ∙ drop_at one (written more) len one-len in
    let n = end - from in
    let cut : take n (drop from text) ≡ one = ap (take n) text_rest ∙ take_at one (written more) n (omega (arith, one-len)) in
    let front : List ℕ = take kept text ++ take n (drop from text) in
    let front-len : length front ≡ kept + n = moved_front text from n kept h.behind (omega (arith, within)) in
    record {
      some = omega (arith, one-len, length-written-cons f []);
      within = within;
      goes = λ out. record {
        stay = h.stay;
        rest = more;
        all = ap (λ gs. h.stay ++ gs) (sym (cond-false (p f) (f ∷ filter p more) (filter p more) out)) ∙ all;
        text_stay = h.text_stay;
        text_rest = behind;
        formed = formed.1;
        behind = omega (arith, h.behind);
        within = within;
      };
      stays = λ kept-in. record {
        stay = h.stay ++ f ∷ [];
        rest = more;
        all = append_assoc h.stay (f ∷ []) (filter p more) ∙ ap (λ gs. h.stay ++ gs) (sym (cond-true (p f) (f ∷ filter p more) (filter p more) kept-in)) ∙ all;
        text_stay =
            take_at front (drop (kept + n) text) (kept + len) (omega (arith, front-len))
            ∙ ap (λ (t : List ℕ). t ++ take n (drop from text)) h.text_stay
            ∙ ap (λ (t : List ℕ). written h.stay ++ t) cut
            ∙ sym (written-append h.stay (f ∷ []));
        text_rest = moved_rest text front end (kept + n) front-len (omega (arith, h.behind)) ∙ behind;
        formed = formed.1;
        behind = omega (arith, h.behind);
        within = omega (arith, within, front-len, length-append front (drop (kept + n) text), length-drop (kept + n) text, h.behind);
      };
    }

-- the field at the front of what is left of the text
pub next_field : (name : List ℕ) (fs : List RawField) (text whole : List ℕ) (named : Bool) (from kept len : ℕ) → Closing (others name) fs text from kept → whole ≡ text → IsFirstField name (take (length whole - from) (drop from whole)) named len → Next name fs text named from kept len
next_field name fs text whole named from kept len h same first =
    let cut : take (length whole - from) (drop from whole) ≡ drop from text = take_rest whole from ∙ ap (drop from) same in
    let rest : h.rest ≡ first.field ∷ first.rest = sym (is_written (drop from text) h.rest h.text_rest h.formed).0 ∙ ap fields_in (sym cut) ∙ first.fields in
    let next = passed (others name) fs text from kept len h first.field first.rest rest (first.len_is ∙ ap length cut) in
    record {
      some = next.some;
      within = next.within;
      goes = λ e. next.goes (ap not (sym first.named_is ∙ e));
      stays = λ e. next.stays (ap not (sym first.named_is ∙ e));
    }
