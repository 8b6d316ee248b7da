-- Attributes: each name behind those before it.
use Rattle.std.proofs.Common.{◌≡◌, ℕ, ◌+◌, ◌<◌, nat_lt, Bool, true, List, [], ◌∷◌, ◌++◌, length, refl, sym, ap, subst, arith, append_assoc, append-nil, length-append}
use Rattle.std.specs.declared.cmp.Ordering.{Ordering}
use Rattle.std.specs.declared.cmp.Ordering.TheVariants.{Less, Equal, Greater}
use Rattle.std.specs.List.{AllByRecursion, list_all}
use Rattle.std.specs.List.Sorted.{IsStrictlySortedBy}
use Rattle.std.specs.Map.{keys_of}
use Rattle.std.specs.Ordering.{is_lt}
use Rattle.std.proofs.lemmas.Bool.{and_from, and_parts, lt-ltb, ltb-true}
use Rattle.mj_mail.specs.Attributes.{AreAttributes, byte_order}
use Rattle.mj_mail.specs.Entry.{attributes_form}
use Rattle.mj_mail.specs.declared.attributes.TheConstants.{MAX_ATTRIBUTES}
use Rattle.mj_entry_rows.specs.Forms.{AreStrings, IsCounted}
use Rattle.mj_entry_rows.specs.Items.{attributes_in, is_next_attribute}
use Rattle.mj_entry_rows.specs.Readings.{IsRow}
use Rattle.mj_entry_rows.proofs.Lists.{AreFitting, all_of_fitting, fitting_row}
use Rattle.mj_entry_rows.proofs.Numbers.{IsPair, pair_row}
use Rattle.mj_entry_rows.proofs.Rows.{same_row}

-- each of these names is before this one
abbrev all_before : List (List ℕ × List ℕ) → List ℕ → Bool
all_before list name = list_all (λ (held : List ℕ × List ℕ). is_lt (byte_order held.0 name)) list

less : (order : Ordering) → is_lt order ≡ true → order ≡ Less
less Less h = refl
less Equal h = absurd (cc)
less Greater h = absurd (cc)

names_pushed : (P : List ℕ → Type 0) (list : List (List ℕ × List ℕ)) (attribute : List ℕ × List ℕ) → AllByRecursion P (keys_of list) → P attribute.0
    → AllByRecursion P (keys_of (list ++ attribute ∷ []))
names_pushed P [] attribute all one = (one, tt)
names_pushed P (other ∷ list) attribute all one = (all.0, names_pushed P list attribute all.1 one)

name_reached : (P : List ℕ → Type 0) (before : List (List ℕ × List ℕ)) (attribute : List ℕ × List ℕ) (rest : List (List ℕ × List ℕ))
    → AllByRecursion P (keys_of (before ++ attribute ∷ rest)) → P attribute.0
name_reached P [] attribute rest all = all.0
name_reached P (other ∷ before) attribute rest all = name_reached P before attribute rest all.1

ascending_pushed : (list : List (List ℕ × List ℕ)) (attribute : List ℕ × List ℕ) → IsStrictlySortedBy byte_order (keys_of list)
    → all_before list attribute.0 ≡ true
    → IsStrictlySortedBy byte_order (keys_of (list ++ attribute ∷ []))
unfolding IsStrictlySortedBy
ascending_pushed [] attribute up all = (tt, tt)
ascending_pushed (other ∷ list) attribute up all =
    let parts = and_parts (is_lt (byte_order other.0 attribute.0)) (all_before list attribute.0) all in (
      names_pushed (λ name. byte_order other.0 name ≡ Less) list attribute up.0 (less (byte_order other.0 attribute.0) parts.0),
      ascending_pushed list attribute up.1 parts.1,
    )

before_all : (before : List (List ℕ × List ℕ)) (attribute : List ℕ × List ℕ) (rest : List (List ℕ × List ℕ))
    → IsStrictlySortedBy byte_order (keys_of (before ++ attribute ∷ rest)) → all_before before attribute.0 ≡ true
unfolding IsStrictlySortedBy
before_all [] attribute rest up = refl
before_all (other ∷ before) attribute rest up =
    and_from (is_lt (byte_order other.0 attribute.0)) (all_before before attribute.0)
    (ap is_lt (name_reached (λ name. byte_order other.0 name ≡ Less) before attribute rest up.0))
    (before_all before attribute rest up.1)

pushed : (list : List (List ℕ × List ℕ)) (attribute : List ℕ × List ℕ) → AreAttributes list → is_next_attribute list attribute ≡ true
    → AreAttributes (list ++ attribute ∷ [])
pushed list attribute are next =
    let parts = and_parts (nat_lt (length list) MAX_ATTRIBUTES) (all_before list attribute.0) next in
    let size : length (list ++ attribute ∷ []) ≡ length list + 1 = length-append list (attribute ∷ []) in
    let room : length list < MAX_ATTRIBUTES = ltb-true (length list) MAX_ATTRIBUTES parts.0 in
    record { ascending = ascending_pushed list attribute are.ascending parts.1; few = omega arith }

next_of : (before : List (List ℕ × List ℕ)) (attribute : List ℕ × List ℕ) (rest : List (List ℕ × List ℕ)) → AreAttributes (before ++ attribute ∷ rest)
    → is_next_attribute before attribute ≡ true
next_of before attribute rest are =
    let size = length-append before (attribute ∷ rest) in
    let few = are.few in
    let room : length before < MAX_ATTRIBUTES = omega arith in
    and_from (nat_lt (length before) MAX_ATTRIBUTES) (all_before before attribute.0)
    (lt-ltb (length before) MAX_ATTRIBUTES room) (before_all before attribute rest are.ascending)

fitting_sorted : (so_far list : List (List ℕ × List ℕ)) → AreAttributes so_far → AreFitting IsPair is_next_attribute so_far list
    → AreAttributes (so_far ++ list)
fitting_sorted so_far [] are fit = subst AreAttributes (sym (append-nil so_far)) are
fitting_sorted so_far (attribute ∷ list) are fit =
    subst AreAttributes (append_assoc so_far (attribute ∷ []) list)
    (fitting_sorted (so_far ++ attribute ∷ []) list (pushed so_far attribute are fit.1.0) fit.1.1)

sorted_fitting : (so_far list : List (List ℕ × List ℕ)) → AllByRecursion IsPair list → AreAttributes (so_far ++ list)
    → AreFitting IsPair is_next_attribute so_far list
sorted_fitting so_far [] all are = tt
sorted_fitting so_far (attribute ∷ list) all are = (
  all.0,
  (
    next_of so_far attribute list are,
    sorted_fitting (so_far ++ attribute ∷ []) list all.1 (subst AreAttributes (sym (append_assoc so_far (attribute ∷ []) list)) are),
  ),
)

none : AreAttributes []
unfolding IsStrictlySortedBy
none = record { ascending = tt; few = omega arith }

counted : (list : List (List ℕ × List ℕ)) → AreAttributes list → IsCounted list
counted list are = omega (arith, are.few)

pub attributes_row : IsRow AreStrings attributes_form attributes_in
attributes_row =
    same_row (fitting_row pair_row is_next_attribute) AreStrings
    (λ list fit. record { sorted = fitting_sorted [] list none fit.1; each = all_of_fitting IsPair is_next_attribute [] list fit.1 })
    (λ list are. (counted list are.sorted, sorted_fitting [] list are.each are.sorted))
