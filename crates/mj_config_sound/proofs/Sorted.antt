-- What is read of a document whose tables are sorted.
use Rattle.std.proofs.Common.{◌≡◌, ℕ, true, List, [], ◌∷◌, Option, Some, Ordering, Less, Equal, Greater, refl, sym, ap, ◌∙◌, ◌&&◌}
use Rattle.std.proofs.lemmas.Bool.{and_parts}
use Rattle.std.specs.List.{list_all}
use Rattle.std.specs.Ordering.{nat_cmp, match_ordering}
use Rattle.std.specs.Cmp.Lexicographic.{slice_cmp}
use Rattle.toml.specs.Data.{Data, array, table, Items, no_items, item, Members, no_members, member, get_member, is_before, is_sorted, items_are_sorted, members_are_sorted}
use Rattle.mj_config_walk.specs.declared.fault.PlanKind.TheVariants.{Missing, WrongType}
use Rattle.mj_config_walk.specs.Values.{required, tables, tables_in}
use Rattle.mj_config_sound.proofs.Holds.{Holds, ok, err, bind, some}

pub first_sorted : (k : List ℕ) (d : Data) (ms : Members) → members_are_sorted (member k d ms) ≡ true → (is_before k ms ≡ true) × (is_sorted d ≡ true) × (members_are_sorted ms ≡ true)
first_sorted k d ms h =
    let parts = and_parts (is_before k ms && is_sorted d) (members_are_sorted ms) h in
    let front = and_parts (is_before k ms) (is_sorted d) parts.0 in
    (front.0, front.1, parts.1)

one_of : (o : Ordering) (rest : Option Data) (d e : Data) → is_sorted d ≡ true → (rest ≡ Some e → is_sorted e ≡ true) → match_ordering o rest (Some d) rest ≡ Some e → is_sorted e ≡ true
one_of Less rest d e h k same = k same
one_of Equal rest d e h k same = let is : d ≡ e = cc in ap is_sorted (sym is) ∙ h
one_of Greater rest d e h k same = k same

-- the value at a key of sorted members
pub value_sorted : (k : List ℕ) (ms : Members) (e : Data) → members_are_sorted ms ≡ true → get_member k ms ≡ Some e → is_sorted e ≡ true
value_sorted k no_members e h is = absurd cc
value_sorted k (member l d ms) e h is =
    let parts = first_sorted l d ms h in
    one_of (slice_cmp nat_cmp k l) (get_member k ms) d e parts.1 (λ later. value_sorted k ms e parts.2 later) is

pub required_sorted : (key : List ℕ) (ms : Members) → members_are_sorted ms ≡ true → Holds (λ d. is_sorted d ≡ true) (required key ms)
required_sorted key ms h = some Missing (get_member key ms) (λ d e. value_sorted key ms d h e)

-- the tables of an array
pub tables_in_sorted : (items : Items) → items_are_sorted items ≡ true → Holds (λ all. list_all members_are_sorted all ≡ true) (tables_in items)
tables_in_sorted no_items h = ok [] refl
tables_in_sorted (item (table members) items) h =
    let parts = and_parts (members_are_sorted members) (items_are_sorted items) h in
    bind (tables_in_sorted items parts.1) (λ rest all. ok (members ∷ rest) (rw (parts.0, all)))
tables_in_sorted (item other items) h = err WrongType

pub tables_sorted : (value : Data) → is_sorted value ≡ true → Holds (λ all. list_all members_are_sorted all ≡ true) (tables value)
tables_sorted (array items) h = tables_in_sorted items h
tables_sorted other h = err WrongType
