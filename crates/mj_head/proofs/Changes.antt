-- What a change of the fields does to the head.
use Rattle.std.proofs.Common.{◌≡◌, ℕ, ◌+◌, ◌<◌, ◌≤◌, Bool, true, false, not, ◌&&◌, ◌||◌, cond, eqb, leb, add-one, List, [], ◌∷◌, ◌++◌, length, get_or, take, drop, set, refl, sym, ap, ◌∙◌, append_assoc, arith}
use Rattle.std.specs.Prelude.{filter}
use Rattle.std.specs.List.{list_all}
use Rattle.std.proofs.lemmas.Bool.{and_parts, and_from, leb-true, le-leb, cond-true, cond-false, cond_both, not-true, or_parts}
use Rattle.std.proofs.lemmas.List.{length-append, take-append-drop, drop_more, set_split}
use Rattle.mj_head.specs.Head.{RawField, written, is_field, is_head, is_field_name, is_raw_body, is_folded, begins_blank}
use Rattle.mj_head.specs.Fields.{is_named, is_field_value, replaced_first}
use Rattle.mj_head.specs.Reading.{with_body, IsFirstNamed}

-- ---- the written form

pub length-written-cons : (f : RawField) (fs : List RawField) → length (written (f ∷ fs)) ≡ length f.0 + length f.1 + 3 + length (written fs)
length-written-cons f fs = omega (arith, length-append f.0 ((58 ∷ f.1) ++ ((13 ∷ 10 ∷ []) ++ written fs)), length-append f.1 ((13 ∷ 10 ∷ []) ++ written fs))

pub written-append : (fs gs : List RawField) → written (fs ++ gs) ≡ written fs ++ written gs
written-append [] gs = refl
written-append (f ∷ fs) gs =
    ap (λ (t : List ℕ). f.0 ++ ((58 ∷ f.1) ++ ((13 ∷ 10 ∷ []) ++ t))) (written-append fs gs)
    ∙ ap (λ (t : List ℕ). f.0 ++ t) (sym (append_assoc (58 ∷ f.1) ((13 ∷ 10 ∷ []) ++ written fs) (written gs)))
    ∙ sym (append_assoc f.0 ((58 ∷ f.1) ++ ((13 ∷ 10 ∷ []) ++ written fs)) (written gs))

pub length-written-append : (fs gs : List RawField) → length (written (fs ++ gs)) ≡ length (written fs) + length (written gs)
length-written-append fs gs = ap length (written-append fs gs) ∙ length-append (written fs) (written gs)

pub length-written_push : (fs : List RawField) (f : RawField) → length (written (fs ++ f ∷ [])) ≡ length (written fs) + (length f.0 + length f.1 + 3)
length-written_push fs f = omega (arith, length-written-append fs (f ∷ []), length-written-cons f [])

-- ---- heads

pub head_fields : (fs : List RawField) → is_head fs ≡ true → list_all is_field fs ≡ true
head_fields fs h = (and_parts (list_all is_field fs) (leb (length (written fs)) 65536) h).0

pub head_short : (fs : List RawField) → is_head fs ≡ true → length (written fs) ≤ 65536
head_short fs h = leb-true (length (written fs)) 65536 (and_parts (list_all is_field fs) (leb (length (written fs)) 65536) h).1

pub is_head_from : (fs : List RawField) → list_all is_field fs ≡ true → length (written fs) ≤ 65536 → is_head fs ≡ true
is_head_from fs h short = and_from (list_all is_field fs) (leb (length (written fs)) 65536) h (le-leb (length (written fs)) 65536 short)

pub list_all-append : {X : Type 0} (p : X → Bool) (xs ys : List X) → list_all p xs ≡ true → list_all p ys ≡ true → list_all p (xs ++ ys) ≡ true
list_all-append p [] ys h t = t
list_all-append p (x ∷ xs) ys h t =
    let parts = and_parts (p x) (list_all p xs) h in
    and_from (p x) (list_all p (xs ++ ys)) parts.0 (list_all-append p xs ys parts.1 t)

-- ---- one more field

pub is_head_push : (fs : List RawField) (f : RawField) → is_head fs ≡ true → is_field f ≡ true → length (written fs) + (length f.0 + length f.1 + 3) ≤ 65536 → is_head (fs ++ f ∷ []) ≡ true
is_head_push fs f h formed short =
    is_head_from (fs ++ f ∷ []) (list_all-append is_field fs (f ∷ []) (head_fields fs h) (and_from (is_field f) true formed refl)) (omega (arith, length-written_push fs f, short))

value_folded : (before : ℕ) (value : List ℕ) → is_field_value value ≡ true → is_folded before value ≡ true
value_folded before [] h = refl
value_folded before (b ∷ value) h =
    let parts = and_parts (not (eqb b 13 || eqb b 10)) (is_field_value value) h in
    let other : eqb b 10 ≡ false = (or_parts (eqb b 13) (eqb b 10) (not-true (eqb b 13 || eqb b 10) parts.0)).1 in
    and_from (cond (eqb b 10) (eqb before 13 && begins_blank value) true) (is_folded b value)
    (cond-false (eqb b 10) (eqb before 13 && begins_blank value) true other)
    (value_folded b value parts.1)

-- a field with a value has the form of a field
pub value_formed : (name value : List ℕ) → is_field_name name ≡ true → is_field_value value ≡ true → is_field (name, 32 ∷ value) ≡ true
value_formed name value n v = and_from (is_field_name name) (is_raw_body (32 ∷ value)) n (value_folded 32 value v)

-- ---- fewer fields

pub filter-short : (p : RawField → Bool) (fs : List RawField) → length (written (filter p fs)) ≤ length (written fs)
filter-short p [] = omega arith
filter-short p (f ∷ fs) =
    cond_both (p f) (f ∷ filter p fs) (filter p fs) (λ gs. length (written gs) ≤ length (written (f ∷ fs)))
    (λ _. omega (arith, length-written-cons f (filter p fs), length-written-cons f fs, filter-short p fs))
    (λ _. omega (arith, length-written-cons f fs, filter-short p fs))

filter_formed : (p : RawField → Bool) (fs : List RawField) → list_all is_field fs ≡ true → list_all is_field (filter p fs) ≡ true
filter_formed p [] h = refl
filter_formed p (f ∷ fs) h =
    let parts = and_parts (is_field f) (list_all is_field fs) h in
    let rest = filter_formed p fs parts.1 in
    cond_both (p f) (f ∷ filter p fs) (filter p fs) (λ gs. list_all is_field gs ≡ true)
    (λ _. and_from (is_field f) (list_all is_field (filter p fs)) parts.0 rest) (λ _. rest)

pub is_head_filter : (p : RawField → Bool) (fs : List RawField) → is_head fs ≡ true → is_head (filter p fs) ≡ true
is_head_filter p fs h = is_head_from (filter p fs) (filter_formed p fs (head_fields fs h)) (omega (arith, filter-short p fs, head_short fs h))

-- each field has three bytes at least
length-le-written : (fs : List RawField) → length fs ≤ length (written fs)
length-le-written [] = omega arith
length-le-written (f ∷ fs) = omega (arith, length-written-cons f fs, length-le-written fs)

pub head_few : (fs : List RawField) → is_head fs ≡ true → length fs ≤ 65536
head_few fs h = omega (arith, head_short fs h, length-le-written fs)

-- ---- another raw body

-- the fields around a place
pub around : (fs : List RawField) (k : ℕ) (d : RawField) → k < length fs → fs ≡ take k fs ++ get_or fs k d ∷ drop (k + 1) fs
around fs k d lt = sym (take-append-drop k fs) ∙ ap (λ (t : List RawField). take k fs ++ t) (drop_more fs k d lt)

pub set_around : (fs : List RawField) (k : ℕ) (v : RawField) → k < length fs → set fs k v ≡ take k fs ++ v ∷ drop (k + 1) fs
set_around fs k v lt = set_split fs k v lt ∙ ap (λ (n : ℕ). take k fs ++ v ∷ drop n fs) (sym (add-one k))

pub list_all_parts : {X : Type 0} (p : X → Bool) (xs ys : List X) → list_all p (xs ++ ys) ≡ true → (list_all p xs ≡ true) × (list_all p ys ≡ true)
list_all_parts p [] ys h = (refl, h)
list_all_parts p (x ∷ xs) ys h =
    let parts = and_parts (p x) (list_all p (xs ++ ys)) h in
    let rest = list_all_parts p xs ys parts.1 in
    (and_from (p x) (list_all p xs) parts.0 rest.0, rest.1)

-- how the written form grows
pub length-with_body : (fs : List RawField) (k : ℕ) (body : List ℕ) → k < length fs → length (written (with_body fs k body)) + length (get_or fs k ([], [])).1 ≡ length (written fs) + length body
length-with_body fs k body lt =
    let f = get_or fs k ([], []) in
    let old : length (written fs) ≡ length (written (take k fs)) + length (written (f ∷ drop (k + 1) fs)) =
    ap (λ (t : List RawField). length (written t)) (around fs k ([], []) lt) ∙ length-written-append (take k fs) (f ∷ drop (k + 1) fs) in
    let new : length (written (with_body fs k body)) ≡ length (written (take k fs)) + length (written ((f.0, body) ∷ drop (k + 1) fs)) =
    ap (λ (t : List RawField). length (written t)) (set_around fs k (f.0, body) lt) ∙ length-written-append (take k fs) ((f.0, body) ∷ drop (k + 1) fs) in
    omega (arith, old, new, length-written-cons f (drop (k + 1) fs), length-written-cons (f.0, body) (drop (k + 1) fs))

pub is_head_with_body : (fs : List RawField) (k : ℕ) (value : List ℕ) → k < length fs → is_head fs ≡ true → is_field_value value ≡ true → length (written (with_body fs k (32 ∷ value))) ≤ 65536 → is_head (with_body fs k (32 ∷ value)) ≡ true
is_head_with_body fs k value lt h v short =
    let f = get_or fs k ([], []) in
    let all = list_all_parts is_field (take k fs) (f ∷ drop (k + 1) fs) (ap (list_all is_field) (sym (around fs k ([], []) lt)) ∙ head_fields fs h) in
    let here = and_parts (is_field f) (list_all is_field (drop (k + 1) fs)) all.1 in
    let named = (and_parts (is_field_name f.0) (is_raw_body f.1) here.0).0 in
    is_head_from (with_body fs k (32 ∷ value))
    (ap (list_all is_field) (set_around fs k (f.0, 32 ∷ value) lt)
    ∙ list_all-append is_field (take k fs) ((f.0, 32 ∷ value) ∷ drop (k + 1) fs) all.0 (and_from (is_field (f.0, 32 ∷ value)) (list_all is_field (drop (k + 1) fs)) (value_formed f.0 value named v) here.1))
    short

pub replaced_first_none : (name body : List ℕ) (fs : List RawField) → list_all (λ f. not (is_named name f)) fs ≡ true → replaced_first name body fs ≡ fs ++ (name, body) ∷ []
replaced_first_none name body [] h = refl
replaced_first_none name body (f ∷ fs) h =
    let parts = and_parts (not (is_named name f)) (list_all (λ g. not (is_named name g)) fs) h in
    cond-false (is_named name f) ((f.0, body) ∷ fs) (f ∷ replaced_first name body fs) (not-true (is_named name f) parts.0) ∙ ap (λ (t : List RawField). f ∷ t) (replaced_first_none name body fs parts.1)

replaced_first_at : (name body : List ℕ) (fs gs : List RawField) (f : RawField) → list_all (λ g. not (is_named name g)) fs ≡ true → is_named name f ≡ true → replaced_first name body (fs ++ f ∷ gs) ≡ fs ++ (f.0, body) ∷ gs
replaced_first_at name body [] gs f h is = cond-true (is_named name f) ((f.0, body) ∷ gs) (f ∷ replaced_first name body gs) is
replaced_first_at name body (e ∷ fs) gs f h is =
    let parts = and_parts (not (is_named name e)) (list_all (λ g. not (is_named name g)) fs) h in
    cond-false (is_named name e) ((e.0, body) ∷ (fs ++ f ∷ gs)) (e ∷ replaced_first name body (fs ++ f ∷ gs)) (not-true (is_named name e) parts.0)
    ∙ ap (λ (t : List RawField). e ∷ t) (replaced_first_at name body fs gs f parts.1 is)

pub replaced_first_is : (name body : List ℕ) (fs : List RawField) (k : ℕ) → IsFirstNamed name fs k → replaced_first name body fs ≡ with_body fs k body
replaced_first_is name body fs k h =
    ap (replaced_first name body) (around fs k ([], []) h.within)
    ∙ replaced_first_at name body (take k fs) (drop (k + 1) fs) (get_or fs k ([], [])) h.before h.named
    ∙ sym (set_around fs k ((get_or fs k ([], [])).0, body) h.within)
