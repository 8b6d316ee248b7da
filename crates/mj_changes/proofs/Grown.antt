-- Lists of attributes and of fields that only grow.
use Rattle.std.proofs.Common.{◌≡◌, ◌∙◌, ℕ, suc, ◌+◌, ◌<◌, ◌≤◌, false, List, [], ◌∷◌, ◌++◌, length, drop, drop-cons, get_or, append_assoc, sym, ap, arith, length-append, Some}
use Rattle.std.specs.Prelude.{nat_le}
use Rattle.std.specs.declared.cmp.Ordering.{Ordering}
use Rattle.std.specs.declared.cmp.Ordering.TheVariants.{Less, Equal, Greater}
use Rattle.std.specs.BTreeMap.{insert_entry}
use Rattle.std.specs.List.{cons_option}
use Rattle.std.specs.Option.{option_map}
use Rattle.std.specs.Ordering.{match_ordering}
use Rattle.std.proofs.lemmas.Bool.Decides.{nat_tests}
use Rattle.mj_head.specs.Head.{RawField, written}
use Rattle.mj_mail.specs.Attributes.{attribute_value, byte_order, with_attribute}
use Rattle.mj_plan.specs.declared.mailet.Named.{Named}
use Rattle.mj_container.specs.Changes.{field_of, fields_from, with_each}

abbrev Pairs : Type 0
Pairs = List (List ℕ × List ℕ)

put_by : (r : Ordering) (name value : List ℕ) (e : List ℕ × List ℕ) (es rest : Pairs) → length es ≤ length rest
    → length (e ∷ es) ≤ length (match_ordering r ((name, value) ∷ e ∷ es) ((e.0, value) ∷ es) (e ∷ rest))
put_by Less name value e es rest h = omega arith
put_by Equal name value e es rest h = omega arith
put_by Greater name value e es rest h = omega (arith, h)

put : (name value : List ℕ) (es : Pairs) → length es ≤ length (with_attribute name value es)
put name value [] = omega arith
put name value (e ∷ es) = put_by (byte_order name e.0) name value e es (insert_entry byte_order es name value) (put name value es)

put_each : (named : List Named) (es : Pairs) → length es ≤ length (with_each named es)
put_each [] es = omega arith
put_each (n ∷ named) es = let one = put n.name n.value es in let rest = put_each named (with_attribute n.name n.value es) in omega (arith, one, rest)

-- where one attribute finds no room, not all of them find it
pub no_room : (most : ℕ) (name value : List ℕ) (named : List Named) (es : Pairs) → nat_le (length (with_attribute name value es)) most ≡ false
    → nat_le (length (with_each named (with_attribute name value es))) most ≡ false
no_room most name value named es h = let more = put_each named (with_attribute name value es) in grind (arith, nat_tests, more, h)

pub not_all : (most : ℕ) (named : List Named) (k : ℕ) (item : Named) (es all : Pairs) → k < length named → item ≡ get_or named k item → with_each (drop k named) es ≡ all
    → nat_le (length (with_attribute item.name item.value es)) most ≡ false → nat_le (length all) most ≡ false
not_all most named k item es all within at rest full =
    let next : drop k named ≡ item ∷ drop (suc k) named = drop-cons named k item within ∙ ap (λ n. n ∷ drop (suc k) named) (sym at) in
    ap (λ pairs. nat_le (length pairs) most) (sym rest ∙ ap (λ left. with_each left es) next) ∙ no_room most item.name item.value (drop (suc k) named) es full

-- ---- Fields

written-append : (a b : List RawField) → length (written (a ++ b)) ≡ length (written a) + length (written b)
written-append [] b = omega arith
written-append (field ∷ a) b =
    let e = length-append field.0 ((58 ∷ field.1) ++ ((13 ∷ 10 ∷ []) ++ written (a ++ b))) in
    let f = length-append (58 ∷ field.1) ((13 ∷ 10 ∷ []) ++ written (a ++ b)) in
    let g = length-append field.0 ((58 ∷ field.1) ++ ((13 ∷ 10 ∷ []) ++ written a)) in
    let h = length-append (58 ∷ field.1) ((13 ∷ 10 ∷ []) ++ written a) in
    let rest = written-append a b in
    omega (arith, e, f, g, h, rest)

-- where fields find no room, more of them don't find it
pub no_room_for : (most : ℕ) (head more : List RawField) → nat_le (length (written head)) most ≡ false → nat_le (length (written (head ++ more))) most ≡ false
no_room_for most head more h = let e = written-append head more in grind (arith, nat_tests, e, h)

pub not_all_fields : (most : ℕ) (mapping : List Named) (k : ℕ) (item : Named) (head all : List RawField) (attributes : Pairs) (value : List ℕ) → k < length mapping → item ≡ get_or mapping k item
    → attribute_value item.name attributes ≡ Some value → head ++ fields_from (drop k mapping) attributes ≡ all
    → nat_le (length (written (head ++ field_of item.value value ∷ []))) most ≡ false → nat_le (length (written all)) most ≡ false
not_all_fields most mapping k item head all attributes value within at has rest full =
    let next : drop k mapping ≡ item ∷ drop (suc k) mapping = drop-cons mapping k item within ∙ ap (λ n. n ∷ drop (suc k) mapping) (sym at) in
    let more = fields_from (drop (suc k) mapping) attributes in
    let here : fields_from (drop k mapping) attributes ≡ field_of item.value value ∷ more = ap (λ left. fields_from left attributes) next ∙ ap (λ found. cons_option (option_map (field_of item.value) found) more) has in
    let whole : (head ++ field_of item.value value ∷ []) ++ more ≡ all = append_assoc head (field_of item.value value ∷ []) more ∙ ap (λ fields. head ++ fields) (sym here) ∙ rest in
    ap (λ fields. nat_le (length (written fields)) most) (sym whole) ∙ no_room_for most (head ++ field_of item.value value ∷ []) more full
