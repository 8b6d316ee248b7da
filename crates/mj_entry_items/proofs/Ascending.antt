-- Attributes in the order of their names, and one behind them.
use Rattle.std.proofs.Common.{◌≡◌, ℕ, suc, ◌+◌, ◌-◌, ◌<◌, nat_le, nat_lt, Bool, true, false, ◌&&◌, List, [], ◌∷◌, ◌++◌, length, slice_get, Some, refl, sym, ap, ◌∙◌, subst, arith, length-append}
use Rattle.std.specs.declared.cmp.Ordering.{Ordering}
use Rattle.std.specs.declared.cmp.Ordering.TheVariants.{Less, Equal, Greater}
use Rattle.std.specs.List.Sorted.{IsStrictlySortedBy}
use Rattle.std.specs.Map.{keys_of}
use Rattle.std.specs.Ordering.{is_lt, match_ordering, ordering_reverse}
use Rattle.std.proofs.lemmas.Bool.{and_parts, ltb-true}
use Rattle.std.proofs.lemmas.Bool.Decides.{nat_tests}
use Rattle.std.proofs.lemmas.Cmp.{nat_list_cmp_total}
use Rattle.mj_mail.specs.Attributes.{byte_order, with_attribute}
use Rattle.mj_entry_items.specs.Names.{are_before, is_before, is_next_name}

-- an attribute: its name and its value
abbrev pub Attribute : Type 0
Attribute = List ℕ × List ℕ

less : (order : Ordering) → is_lt order ≡ true → order ≡ Less
less Less is = refl
less Equal is = absurd (cc)
less Greater is = absurd (cc)

-- a name before the first of names that are all before another is before that one
all_from : (name : List ℕ) (first second : Attribute) (rest : List Attribute) → byte_order first.0 second.0 ≡ Less
    → are_before name (second ∷ rest) ≡ true → is_before name first ≡ true
all_from name first second rest below all =
    let next = less (byte_order second.0 name) (and_parts (is_before name second) (are_before name rest) all).0 in
    ap is_lt (nat_list_cmp_total.trans first.0 second.0 name below next)

with_true : (a : Bool) → a ≡ (a && true)
with_true true = refl
with_true false = refl

with_first : (a b : Bool) → (b ≡ true → a ≡ true) → b ≡ (a && b)
with_first true b first = refl
with_first false true first = sym (first refl)
with_first false false first = refl

-- The last of them is before a name exactly where all are.
pub last_before : (attributes : List Attribute) (last : Attribute) (name : List ℕ) → IsStrictlySortedBy byte_order (keys_of attributes)
    → slice_get attributes (length attributes - 1) ≡ Some last → is_before name last ≡ are_before name attributes
unfolding IsStrictlySortedBy
last_before [] last name up is = absurd (cc)
last_before (first ∷ []) last name up is =
    let same : first ≡ last = cc in
    subst (λ (held : Attribute). is_before name held ≡ (is_before name first && true)) same (with_true (is_before name first))
last_before (first ∷ second ∷ rest) last name up is =
    let here : suc (suc (length rest)) - 1 ≡ suc (length rest) = omega arith in
    let next : suc (length rest) - 1 ≡ length rest = omega arith in
    let at : slice_get (second ∷ rest) (suc (length rest) - 1) ≡ Some last =
    ap (λ (k : ℕ). slice_get (second ∷ rest) k) next ∙ ap (λ (k : ℕ). slice_get (first ∷ second ∷ rest) k) (sym here) ∙ is in
    last_before (second ∷ rest) last name up.1 at
    ∙ with_first (is_before name first) (are_before name (second ∷ rest)) (all_from name first second rest up.0.0)

-- An attribute whose name is behind all names is put at the end.
pub put_behind : (attributes : List Attribute) (name value : List ℕ) → are_before name attributes ≡ true
    → with_attribute name value attributes ≡ attributes ++ (name, value) ∷ []
put_behind [] name value all = refl
put_behind (first ∷ rest) name value all =
    let parts = and_parts (is_before name first) (are_before name rest) all in
    let above : byte_order name first.0 ≡ Greater =
    nat_list_cmp_total.antisymm name first.0 ∙ ap ordering_reverse (less (byte_order first.0 name) parts.0) in
    ap (λ (order : Ordering). match_ordering order ((name, value) ∷ first ∷ rest) ((first.0, value) ∷ rest) (first ∷ with_attribute name value rest)) above
    ∙ ap (λ (list : List Attribute). first ∷ list) (put_behind rest name value parts.1)

-- There is room for it where it may stand behind them.
pub few_behind : (attributes : List Attribute) (name value : List ℕ) (most : ℕ) → is_next_name most name attributes ≡ true
    → nat_le (length (with_attribute name value attributes)) most ≡ is_next_name most name attributes
few_behind attributes name value most next =
    let parts = and_parts (nat_lt (length attributes) most) (are_before name attributes) next in
    let size : length (attributes ++ (name, value) ∷ []) ≡ length attributes + 1 = length-append attributes ((name, value) ∷ []) in
    let few : length attributes < most = ltb-true (length attributes) most parts.0 in
    let room : nat_le (length (attributes ++ (name, value) ∷ [])) most ≡ true = grind (arith, nat_tests) in
    ap (λ (list : List Attribute). nat_le (length list) most) (put_behind attributes name value parts.1) ∙ room ∙ sym next
