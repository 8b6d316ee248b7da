-- Another raw body for the field at a place: what stands before and behind the old one stays.
use Rattle.std.proofs.Common.{◌≡◌, ℕ, ◌+◌, ◌-◌, ◌<◌, ◌≤◌, List, [], ◌∷◌, ◌++◌, length, true, get_or, take, drop, sym, ap, ◌∙◌, append_assoc, arith}
use Rattle.std.proofs.lemmas.List.{length-append, take_at, drop_at, take-append-drop}
use Rattle.mj_head.specs.Head.{RawField, fields_in, written, is_head}
use Rattle.mj_head.specs.Fields.{is_field_value}
use Rattle.mj_head.specs.Reading.{with_body, Stands}
use Rattle.mj_head.proofs.Changes.{set_around, is_head_with_body, length-with_body, written-append, length-written-append, length-written-cons}
use Rattle.mj_head.proofs.Law.{is_kept}
use Rattle.mj_head.proofs.Places.{drop_next, within_next, get_next}

-- what stands around the raw body in the written form
written_around : (fs gs : List RawField) (name body : List ℕ) → written (fs ++ (name, body) ∷ gs) ≡ (written fs ++ (name ++ 58 ∷ [])) ++ (body ++ (13 ∷ 10 ∷ written gs))
written_around fs gs name body =
    let rest : List ℕ = body ++ (13 ∷ 10 ∷ written gs) in
    written-append fs ((name, body) ∷ gs)
    ∙ ap (λ (t : List ℕ). written fs ++ t) (sym (append_assoc name (58 ∷ []) rest))
    ∙ sym (append_assoc (written fs) (name ++ 58 ∷ []) rest)

-- the raw body of a field and the CRLF behind it stand before the fields behind it
pub body_room : (fs ys zs : List RawField) (f : RawField) (place : ℕ) → ys ≡ drop place fs → ys ≡ f ∷ zs → length f.1 + 2 + length (written zs) ≤ length (written fs)
body_room fs ys zs f place at e =
    let parts : length (written fs) ≡ length (written (take place fs)) + length (written (f ∷ zs)) =
    ap (λ (gs : List RawField). length (written gs)) (sym (take-append-drop place fs) ∙ ap (λ (gs : List RawField). take place fs ++ gs) (sym at ∙ e))
    ∙ length-written-append (take place fs) (f ∷ zs) in
    omega (arith, parts, length-written-cons f zs)

pub body_stands : (fs ys zs : List RawField) (f : RawField) (place from to : ℕ) → ys ≡ drop place fs → ys ≡ f ∷ zs → to + 2 + length (written zs) ≡ length (written fs) → from + length f.1 ≡ to → Stands fs place from to
body_stands fs ys zs f place from to at e ends begins =
    let lt : place < length fs = within_next fs ys zs f place at e in
    let here : get_or fs place ([], []) ≡ f = get_next fs ys zs f ([], []) place at e in
    let around-is : (body : List ℕ) → with_body fs place body ≡ take place fs ++ (f.0, body) ∷ zs =
    λ body. set_around fs place ((get_or fs place ([], [])).0, body) lt
    ∙ ap (λ (g : RawField). take place fs ++ (g.0, body) ∷ drop (place + 1) fs) here
    ∙ ap (λ (gs : List RawField). take place fs ++ (f.0, body) ∷ gs) (sym (drop_next fs ys zs f place at e)) in
    let front : List ℕ = written (take place fs) ++ (f.0 ++ 58 ∷ []) in
    let back : List ℕ = 13 ∷ 10 ∷ written zs in
    let whole : written fs ≡ front ++ (f.1 ++ back) =
    ap written (sym (take-append-drop place fs) ∙ ap (λ (gs : List RawField). take place fs ++ gs) (sym at ∙ e)) ∙ written_around (take place fs) zs f.0 f.1 in
    let before-len : length (front ++ f.1) ≡ to =
    omega (arith, ends, ap length whole, length-append front (f.1 ++ back), length-append f.1 back, length-append front f.1) in
    let front-len : length front ≡ from = omega (arith, begins, before-len, length-append front f.1) in
    record {
      within = omega (arith, ends);
      len = omega (arith, begins, ap (λ (g : RawField). length g.1) here);
      replaced = λ body.
          ap (λ (t : List ℕ). (t ++ body) ++ drop to (written fs)) (ap (take from) whole ∙ take_at front (f.1 ++ back) from front-len)
          ∙ ap (λ (t : List ℕ). (front ++ body) ++ t) (ap (drop to) (whole ∙ sym (append_assoc front f.1 back)) ∙ drop_at (front ++ f.1) back to before-len)
          ∙ append_assoc front body back
          ∙ sym (written_around (take place fs) zs f.0 body)
          ∙ ap written (sym (around-is body));
    }

-- the written form with another raw body in its place is that of the head with this body
pub is_kept_replaced : (fs : List RawField) (old new value : List ℕ) (place from to : ℕ) → place < length fs → Stands fs place from to → is_head fs ≡ true → is_field_value value ≡ true → old ≡ written fs → new ≡ (take from old ++ (32 ∷ value)) ++ drop to old → length old + (length value + 1) ≤ 65536 + (to - from) → let all : List RawField = with_body fs place (32 ∷ value) in (fields_in new ≡ all) × ((written (fields_in new) ≡ new) × (is_head (fields_in new) ≡ true))
is_kept_replaced fs old new value place from to lt s h v same e fits =
    let body : List ℕ = 32 ∷ value in
    is_kept new (with_body fs place body)
    (e ∙ ap (λ (t : List ℕ). (take from t ++ body) ++ drop to t) same ∙ s.replaced body)
    (is_head_with_body fs place value lt h v (omega (arith, fits, ap length same, s.len, length-with_body fs place body lt)))
