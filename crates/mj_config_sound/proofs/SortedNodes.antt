-- The tables that a TOML text defines stay sorted as it is read.
use Rattle.std.proofs.Common.{◌≡◌, ℕ, Bool, true, false, List, [], ◌∷◌, Option, Some, None, Ordering, Less, Equal, Greater, option_map, option_and_then, refl, ap, ◌∙◌, subst}
use Rattle.std.specs.Prelude.{if◌then◌else◌}
use Rattle.std.proofs.lemmas.Bool.{and_parts}
use Rattle.std.proofs.lemmas.Cmp.{nat_list_cmp_total}
use Rattle.std.specs.Ordering.{nat_cmp, is_lt, match_ordering, ordering_reverse}
use Rattle.std.specs.Cmp.Lexicographic.{slice_cmp}
use Rattle.toml.specs.Data.{Data, table, Items, no_items, item, no_members, push_item, same_key, is_before, is_sorted, items_are_sorted, members_are_sorted}
use Rattle.toml.specs.Tables.{implicit, dotted, header, Node, Nodes, no_nodes, node, value, open_table, open_array, get_node, insert, replace, close, close_node, Edit, header_node, dot_node, by_header, by_dot, along_header, along_dots, Definition, key_value, std_table, array_table, new_node, redefine, at_found, at_key, put}
use Rattle.mj_config_sound.proofs.Sorted.{first_sorted}

-- ---- What holds of a value, if there is one

pub record IfThere {X : Type 0} (Q : X → Type 0) (o : Option X) : Type 0 where
  pub of : (x : X) → o ≡ Some x → Q x

same_some : {X : Type 0} (x y : X) → ◌≡◌ {A = Option X} (Some x) (Some y) → x ≡ y
same_some x y e = cc

pub none : {X : Type 0} {Q : X → Type 0} → IfThere Q None
none = record { of = λ x e. absurd cc }

pub there : {X : Type 0} {Q : X → Type 0} (x : X) → Q x → IfThere Q (Some x)
there {Q} x h = record { of = λ y e. subst Q (same_some x y e) h }

pub whatever : {X : Type 0} (o : Option X) → IfThere (λ _. Unit {0}) o
whatever o = record { of = λ x e. tt }

pub mapped : {X Y : Type 0} {P : X → Type 0} {Q : Y → Type 0} {o : Option X} (f : X → Y) → IfThere P o → ((x : X) → P x → Q (f x)) → IfThere Q (option_map f o)
mapped {o = None} f h k = none
mapped {o = Some x} f h k = there (f x) (k x (h.of x refl))

pub and_then : {X Y : Type 0} {P : X → Type 0} {Q : Y → Type 0} {o : Option X} (f : X → Option Y) → IfThere P o → ((x : X) → P x → IfThere Q (f x)) → IfThere Q (option_and_then f o)
and_then {o = None} f h k = none
and_then {o = Some x} f h k = k x (h.of x refl)

pub either : {X : Type 0} {Q : X → Type 0} (b : Bool) {o p : Option X} → IfThere Q o → IfThere Q p → IfThere Q (if b then o else p)
either true h k = h
either false h k = k

-- ---- Nodes

abbrev pub AreSorted : Nodes → Type 0
AreSorted ns = members_are_sorted (close ns) ≡ true

abbrev pub IsSorted : Node → Type 0
IsSorted x = is_sorted (close_node x) ≡ true

sorted_more : (k : List ℕ) (x : Node) (ns : Nodes) → is_before k (close ns) ≡ true → IsSorted x → AreSorted ns → AreSorted (node k x ns)
sorted_more k x ns first h more = rw (first, h, more)

pub pushed_sorted : (ds : Items) (d : Data) → items_are_sorted ds ≡ true → is_sorted d ≡ true → items_are_sorted (push_item ds d) ≡ true
pushed_sorted no_items d h k = rw k
pushed_sorted (item e ds) d h k =
    let parts = and_parts (is_sorted e) (items_are_sorted ds) h in
    rw (parts.0, pushed_sorted ds d parts.1 k)

pushed_parts : (ds : Items) (d : Data) → items_are_sorted (push_item ds d) ≡ true → (items_are_sorted ds ≡ true) × (is_sorted d ≡ true)
pushed_parts no_items d h = (refl, (and_parts (is_sorted d) true h).0)
pushed_parts (item e ds) d h =
    let parts = and_parts (is_sorted e) (items_are_sorted (push_item ds d)) h in
    let rest = pushed_parts ds d parts.1 in
    (rw (parts.0, rest.0), rest.1)

got_by : (k l : List ℕ) (b : Bool) (x y : Node) (rest : Option Node) → IsSorted y → (rest ≡ Some x → IsSorted x) → (if b then Some y else rest) ≡ Some x → IsSorted x
got_by k l true x y rest h more e = let same : y ≡ x = same_some y x e in subst (λ z. IsSorted z) same h
got_by k l false x y rest h more e = more e

got_sorted : (k : List ℕ) (ns : Nodes) (x : Node) → AreSorted ns → get_node k ns ≡ Some x → IsSorted x
got_sorted k no_nodes x h e = absurd cc
got_sorted k (node l y ns) x h e =
    let parts = first_sorted l (close_node y) (close ns) h in
    got_by k l (same_key k l) x y (get_node k ns) parts.1 (λ later. got_sorted k ns x parts.2 later) e

-- ---- A new key

before_by : (o : Ordering) (j k l : List ℕ) (x y : Node) (ns : Nodes) → is_lt (slice_cmp nat_cmp j k) ≡ true → is_lt (slice_cmp nat_cmp j l) ≡ true
    → is_before j (close (match_ordering o (node k x (node l y ns)) (node l x ns) (node l y (insert k x ns)))) ≡ true
before_by Less j k l x y ns h g = h
before_by Equal j k l x y ns h g = g
before_by Greater j k l x y ns h g = g

before_inserted : (j k : List ℕ) (x : Node) (ns : Nodes) → is_lt (slice_cmp nat_cmp j k) ≡ true → is_before j (close ns) ≡ true → is_before j (close (insert k x ns)) ≡ true
before_inserted j k x no_nodes h g = h
before_inserted j k x (node l y ns) h g = before_by (slice_cmp nat_cmp k l) j k l x y ns h g

turned : (k l : List ℕ) → slice_cmp nat_cmp k l ≡ Greater → is_lt (slice_cmp nat_cmp l k) ≡ true
turned k l e = ap is_lt (nat_list_cmp_total.antisymm l k ∙ ap ordering_reverse e)

insert_by : (o : Ordering) (k l : List ℕ) (x y : Node) (ns : Nodes) → slice_cmp nat_cmp k l ≡ o → IsSorted x → IsSorted y → is_before l (close ns) ≡ true → AreSorted ns
    → (slice_cmp nat_cmp k l ≡ Greater → AreSorted (insert k x ns))
    → AreSorted (match_ordering o (node k x (node l y ns)) (node l x ns) (node l y (insert k x ns)))
insert_by Less k l x y ns e a b first rest more = sorted_more k x (node l y ns) (ap is_lt e) a (sorted_more l y ns first b rest)
insert_by Equal k l x y ns e a b first rest more = sorted_more l x ns first a rest
insert_by Greater k l x y ns e a b first rest more = sorted_more l y (insert k x ns) (before_inserted l k x ns (turned k l e) first) b (more e)

inserted_sorted : (k : List ℕ) (x : Node) (ns : Nodes) → IsSorted x → AreSorted ns → AreSorted (insert k x ns)
inserted_sorted k x no_nodes h g = sorted_more k x no_nodes refl h refl
inserted_sorted k x (node l y ns) h g =
    let parts = first_sorted l (close_node y) (close ns) g in
    insert_by (slice_cmp nat_cmp k l) k l x y ns refl h parts.1 parts.0 parts.2 (λ _. inserted_sorted k x ns h parts.2)

-- ---- Another node at a key

before_replaced_by : (b : Bool) (j k l : List ℕ) (x y : Node) (ns : Nodes) → is_lt (slice_cmp nat_cmp j l) ≡ true → is_before j (close (if b then node l x ns else node l y (replace k x ns))) ≡ true
before_replaced_by true j k l x y ns h = h
before_replaced_by false j k l x y ns h = h

before_replaced : (j k : List ℕ) (x : Node) (ns : Nodes) → is_before j (close ns) ≡ true → is_before j (close (replace k x ns)) ≡ true
before_replaced j k x no_nodes h = refl
before_replaced j k x (node l y ns) h = before_replaced_by (same_key k l) j k l x y ns h

replace_by : (b : Bool) (k l : List ℕ) (x y : Node) (ns : Nodes) → IsSorted x → IsSorted y → is_before l (close ns) ≡ true → AreSorted ns → AreSorted (replace k x ns)
    → AreSorted (if b then node l x ns else node l y (replace k x ns))
replace_by true k l x y ns a b first rest more = sorted_more l x ns first a rest
replace_by false k l x y ns a b first rest more = sorted_more l y (replace k x ns) (before_replaced l k x ns first) b more

replaced_sorted : (k : List ℕ) (x : Node) (ns : Nodes) → IsSorted x → AreSorted ns → AreSorted (replace k x ns)
replaced_sorted k x no_nodes h g = refl
replaced_sorted k x (node l y ns) h g =
    let parts = first_sorted l (close_node y) (close ns) g in
    replace_by (same_key k l) k l x y ns h parts.1 parts.0 parts.2 (replaced_sorted k x ns h parts.2)

-- ---- Edits

-- an edit that keeps tables sorted
pub record Keeps (edit : Edit) : Type 0 where
  pub kept : (ns : Nodes) → AreSorted ns → IfThere AreSorted (edit ns)

header_node_kept : (edit : Edit) → Keeps edit → (x : Node) → IsSorted x → IfThere IsSorted (header_node edit x)
header_node_kept edit h (value d) g = none
header_node_kept edit h (open_table origin inner) g = mapped (open_table origin) (h.kept inner g) (λ ns s. s)
header_node_kept edit h (open_array done last) g =
    let parts = pushed_parts done (table (close last)) g in
    mapped (open_array done) (h.kept last parts.1) (λ ns s. pushed_sorted done (table (close ns)) parts.0 s)

dot_node_kept : (edit : Edit) → Keeps edit → (x : Node) → IsSorted x → IfThere IsSorted (dot_node edit x)
dot_node_kept edit h (value d) g = none
dot_node_kept edit h (open_table header inner) g = none
dot_node_kept edit h (open_table implicit inner) g = mapped (open_table dotted) (h.kept inner g) (λ ns s. s)
dot_node_kept edit h (open_table dotted inner) g = mapped (open_table dotted) (h.kept inner g) (λ ns s. s)
dot_node_kept edit h (open_array done last) g = none

by_header_kept : (k : List ℕ) (edit : Edit) (ns : Nodes) (o : Option Node) → Keeps edit → AreSorted ns → ((x : Node) → o ≡ Some x → IsSorted x) → IfThere AreSorted (by_header k edit ns o)
by_header_kept k edit ns None h g f = mapped (λ new. insert k (open_table implicit new) ns) (h.kept no_nodes refl) (λ new s. inserted_sorted k (open_table implicit new) ns s g)
by_header_kept k edit ns (Some x) h g f = mapped (λ new. replace k new ns) (header_node_kept edit h x (f x refl)) (λ new s. replaced_sorted k new ns s g)

by_dot_kept : (k : List ℕ) (edit : Edit) (ns : Nodes) (o : Option Node) → Keeps edit → AreSorted ns → ((x : Node) → o ≡ Some x → IsSorted x) → IfThere AreSorted (by_dot k edit ns o)
by_dot_kept k edit ns None h g f = mapped (λ new. insert k (open_table dotted new) ns) (h.kept no_nodes refl) (λ new s. inserted_sorted k (open_table dotted new) ns s g)
by_dot_kept k edit ns (Some x) h g f = mapped (λ new. replace k new ns) (dot_node_kept edit h x (f x refl)) (λ new s. replaced_sorted k new ns s g)

pub along_header_kept : (path : List (List ℕ)) (edit : Edit) → Keeps edit → (ns : Nodes) → AreSorted ns → IfThere AreSorted (along_header path edit ns)
unfolding along_header
along_header_kept [] edit h ns g = h.kept ns g
along_header_kept (k ∷ path) edit h ns g =
    by_header_kept k (along_header path edit) ns (get_node k ns) (record { kept = λ inner s. along_header_kept path edit h inner s }) g (λ x e. got_sorted k ns x g e)

pub along_dots_kept : (path : List (List ℕ)) (edit : Edit) → Keeps edit → (ns : Nodes) → AreSorted ns → IfThere AreSorted (along_dots path edit ns)
unfolding along_dots
along_dots_kept [] edit h ns g = h.kept ns g
along_dots_kept (k ∷ path) edit h ns g =
    by_dot_kept k (along_dots path edit) ns (get_node k ns) (record { kept = λ inner s. along_dots_kept path edit h inner s }) g (λ x e. got_sorted k ns x g e)

-- ---- Definitions

-- a value that stands with a key is sorted
abbrev pub IsSortedDefinition : Definition → Type 0
IsSortedDefinition (key_value d) = is_sorted d ≡ true
IsSortedDefinition std_table = Unit {0}
IsSortedDefinition array_table = Unit {0}

new_sorted : (what : Definition) → IsSortedDefinition what → IsSorted (new_node what)
new_sorted (key_value d) h = h
new_sorted std_table h = refl
new_sorted array_table h = refl

redefined_sorted : (what : Definition) (x : Node) → IsSorted x → IfThere IsSorted (redefine what x)
redefined_sorted std_table (open_table implicit inner) h = there (open_table header inner) h
redefined_sorted array_table (open_array done last) h = there (open_array (push_item done (table (close last))) no_nodes) (pushed_sorted (push_item done (table (close last))) (table no_members) h refl)
redefined_sorted what x h = none

found_kept : (k : List ℕ) (what : Definition) (ns : Nodes) (o : Option Node) → IsSortedDefinition what → AreSorted ns → ((x : Node) → o ≡ Some x → IsSorted x) → IfThere AreSorted (at_found k what ns o)
found_kept k what ns None h g f = there (insert k (new_node what) ns) (inserted_sorted k (new_node what) ns (new_sorted what h) g)
found_kept k what ns (Some x) h g f = mapped (λ y. replace k y ns) (redefined_sorted what x (f x refl)) (λ y s. replaced_sorted k y ns s g)

pub at_key_kept : (k : List ℕ) (what : Definition) → IsSortedDefinition what → Keeps (at_key k what)
unfolding at_key
at_key_kept k what h = record { kept = λ ns g. found_kept k what ns (get_node k ns) h g (λ x e. got_sorted k ns x g e) }

pub put_kept : (key : List (List ℕ) × List ℕ) (d : Data) → is_sorted d ≡ true → Keeps (put key d)
put_kept key d h = record { kept = λ ns g. along_dots_kept key.0 (at_key key.1 (key_value d)) (at_key_kept key.1 (key_value d) h) ns g }
