-- Texts of a configuration are values of fields.
use Rattle.std.proofs.Common.{◌≡◌, ◌∙◌, ℕ, Bool, true, false, not, List, [], ◌∷◌, ◌++◌, sym, ap, arith, Option, Some, refl}
use Rattle.std.specs.Prelude.{◌==◌, ◌||◌, if◌then◌else◌}
use Rattle.std.specs.List.{list_all}
use Rattle.std.specs.Str.{bytes_eq}
use Rattle.std.proofs.lemmas.Bool.{and_parts}
use Rattle.std.proofs.lemmas.Bool.Decides.{nat_tests}
use Rattle.std.proofs.lemmas.List.Folds.{list_all-append}
use Rattle.mj_head.specs.Fields.{is_field_value}
use Rattle.mj_mail.specs.Attributes.{attribute_value}
use Rattle.mj_plan.specs.Forms.{has_length, is_attribute_name, is_attribute_value, is_line, is_printable}
use Rattle.mj_container.specs.Changes.{on_one_line}
use Rattle.mj_container.specs.Sound.{is_attribute}
use Rattle.mj_container.proofs.Facts.{both_true}

printable_by : (b : ℕ) (e f : Bool) → b == 13 ≡ e → b == 10 ≡ f → is_printable b ≡ true → not (e || f) ≡ true
printable_by b true f e g h = grind (arith, nat_tests, e, h)
printable_by b false true e g h = grind (arith, nat_tests, g, h)
printable_by b false false e g h = refl

printable_value : (text : List ℕ) → list_all is_printable text ≡ true → is_field_value text ≡ true
printable_value [] h = refl
printable_value (b ∷ text) h =
    let parts = and_parts (is_printable b) (list_all is_printable text) h in
    both_true (not (b == 13 || b == 10)) (is_field_value text) (printable_by b (b == 13) (b == 10) refl refl parts.0) (printable_value text parts.1)

pub line_value : (text : List ℕ) → is_line text ≡ true → is_field_value text ≡ true
line_value text h = printable_value text (and_parts (has_length 1 512 text) (list_all is_printable text) h).1

-- the value of an attribute
value_by : (value said : List ℕ) (rest : Option (List ℕ)) (b : Bool) → (if b then Some value else rest) ≡ Some said → is_field_value value ≡ true
    → (rest ≡ Some said → is_field_value said ≡ true) → is_field_value said ≡ true
value_by value said rest true e here later = let same : value ≡ said = cc in sym (ap is_field_value same) ∙ here
value_by value said rest false e here later = later e

pub attribute_is_value : (name : List ℕ) (attributes : List (List ℕ × List ℕ)) (value : List ℕ) → list_all is_attribute attributes ≡ true → attribute_value name attributes ≡ Some value
    → is_field_value value ≡ true
attribute_is_value name [] value all e = cc
attribute_is_value name (a ∷ attributes) value all e =
    let parts = and_parts (is_attribute a) (list_all is_attribute attributes) all in
    let form = (and_parts (is_attribute_name a.0) (is_attribute_value a.1) parts.0).1 in
    value_by a.1 value (attribute_value name attributes) (bytes_eq a.0 name) e (printable_value a.1 (and_parts (has_length 0 4_096 a.1) (list_all is_printable a.1) form).1)
    (λ later. attribute_is_value name attributes value parts.1 later)

-- a text on one line
one_line_by : (b : ℕ) (e f : Bool) → b == 13 ≡ e → b == 10 ≡ f → not ((if e || f then 32 else b) == 13 || (if e || f then 32 else b) == 10) ≡ true
one_line_by b true f e g = refl
one_line_by b false true e g = refl
one_line_by b false false e g = rw (e, g) refl

one_line_value : (text : List ℕ) → is_field_value (on_one_line text) ≡ true
one_line_value [] = refl
one_line_value (b ∷ text) =
    let c = if b == 13 || b == 10 then 32 else b in
    both_true (not (c == 13 || c == 10)) (is_field_value (on_one_line text)) (one_line_by b (b == 13) (b == 10) refl refl) (one_line_value text)

pub prefixed_value : (prefix text : List ℕ) → is_line prefix ≡ true → is_field_value (prefix ++ 32 ∷ on_one_line text) ≡ true
prefixed_value prefix text h =
    list_all-append (λ b. not (b == 13 || b == 10)) prefix (32 ∷ on_one_line text) ∙ both_true (is_field_value prefix) (is_field_value (on_one_line text)) (line_value prefix h) (one_line_value text)
