-- What changes of a mail keep: the forms of its attributes, and the limits of its head and its recipients.
use Rattle.std.proofs.Common.{◌≡◌, ℕ, suc, ◌+◌, ◌≤◌, Bool, true, false, not, List, [], ◌∷◌, ◌++◌, length, arith, length-append, refl}
use Rattle.std.specs.Prelude.{if◌then◌else◌, filter}
use Rattle.std.specs.declared.cmp.Ordering.{Ordering}
use Rattle.std.specs.declared.cmp.Ordering.TheVariants.{Less, Equal, Greater}
use Rattle.std.specs.BTreeMap.{insert_entry}
use Rattle.std.specs.List.{list_all}
use Rattle.std.specs.Ordering.{match_ordering}
use Rattle.std.specs.Str.{bytes_eq}
use Rattle.std.proofs.lemmas.Bool.{and_parts}
use Rattle.mj_address.specs.Grammar.{Mailbox}
use Rattle.mj_address.specs.Same.{distinct, has_same, with_address, with_addresses}
use Rattle.mj_head.specs.Fields.{is_named}
use Rattle.mj_head.specs.Head.{RawField, written}
use Rattle.mj_mail.specs.Attributes.{byte_order, with_attribute, without_attribute}
use Rattle.mj_plan.specs.declared.mailet.Named.{Named}
use Rattle.mj_plan.specs.Forms.{is_attribute_name, is_attribute_value}
use Rattle.mj_plan.specs.Sound.{is_attribute as is_set}
use Rattle.mj_container.specs.Changes.{with_each, without_each, without_fields}
use Rattle.mj_container.specs.Sound.{is_attribute}
use Rattle.mj_container.proofs.Facts.{both_true}

-- ---- Attributes

abbrev Pairs : Type 0
Pairs = List (List ℕ × List ℕ)

abbrev are_formed : Pairs → Bool
are_formed attributes = list_all is_attribute attributes

put_by : (r : Ordering) (name value : List ℕ) (e : List ℕ × List ℕ) (es rest : Pairs) → is_attribute (name, value) ≡ true → are_formed (e ∷ es) ≡ true → are_formed rest ≡ true
    → are_formed (match_ordering r ((name, value) ∷ e ∷ es) ((e.0, value) ∷ es) (e ∷ rest)) ≡ true
put_by Less name value e es rest one all others = both_true (is_attribute (name, value)) (are_formed (e ∷ es)) one all
put_by Equal name value e es rest one all others =
    let parts = and_parts (is_attribute e) (are_formed es) all in
    let name_is = (and_parts (is_attribute_name e.0) (is_attribute_value e.1) parts.0).0 in
    let value_is = (and_parts (is_attribute_name name) (is_attribute_value value) one).1 in
    both_true (is_attribute (e.0, value)) (are_formed es) (both_true (is_attribute_name e.0) (is_attribute_value value) name_is value_is) parts.1
put_by Greater name value e es rest one all others = both_true (is_attribute e) (are_formed rest) (and_parts (is_attribute e) (are_formed es) all).0 others

-- a list with one more of these forms keeps them
pub put : (name value : List ℕ) (es : Pairs) → is_attribute (name, value) ≡ true → are_formed es ≡ true → are_formed (with_attribute name value es) ≡ true
put name value [] one all = both_true (is_attribute (name, value)) true one refl
put name value (e ∷ es) one all =
    put_by (byte_order name e.0) name value e es (insert_entry byte_order es name value) one all (put name value es one (and_parts (is_attribute e) (are_formed es) all).1)

pub put_each : (named : List Named) (es : Pairs) → list_all is_set named ≡ true → are_formed es ≡ true → are_formed (with_each named es) ≡ true
put_each [] es new all = all
put_each (n ∷ named) es new all =
    let parts = and_parts (is_set n) (list_all is_set named) new in
    put_each named (with_attribute n.name n.value es) parts.1 (put n.name n.value es parts.0 all)

-- a filter keeps what all have, and no more
all_filtered_by : {X : Type 0} (p q : X → Bool) (x : X) (xs : List X) (b : Bool) → list_all p (x ∷ xs) ≡ true → list_all p (filter q xs) ≡ true
    → list_all p (if b then x ∷ filter q xs else filter q xs) ≡ true
all_filtered_by p q x xs true all rest = both_true (p x) (list_all p (filter q xs)) (and_parts (p x) (list_all p xs) all).0 rest
all_filtered_by p q x xs false all rest = rest

pub all_filtered : {X : Type 0} (p q : X → Bool) (xs : List X) → list_all p xs ≡ true → list_all p (filter q xs) ≡ true
all_filtered p q [] all = refl
all_filtered p q (x ∷ xs) all = all_filtered_by p q x xs (q x) all (all_filtered p q xs (and_parts (p x) (list_all p xs) all).1)

fewer_by : {X : Type 0} (q : X → Bool) (x : X) (xs : List X) (b : Bool) → length (filter q xs) ≤ length xs → length (if b then x ∷ filter q xs else filter q xs) ≤ suc (length xs)
fewer_by q x xs true h = omega arith
fewer_by q x xs false h = omega arith

pub fewer : {X : Type 0} (q : X → Bool) (xs : List X) → length (filter q xs) ≤ length xs
fewer q [] = omega arith
fewer q (x ∷ xs) = fewer_by q x xs (q x) (fewer q xs)

pub removed_formed : (names : List (List ℕ)) (es : Pairs) → are_formed es ≡ true → are_formed (without_each names es) ≡ true
removed_formed [] es all = all
removed_formed (name ∷ names) es all = removed_formed names (without_attribute name es) (all_filtered is_attribute (λ held. not (bytes_eq held.0 name)) es all)

pub removed_fewer : (names : List (List ℕ)) (es : Pairs) → length (without_each names es) ≤ length es
removed_fewer [] es = omega arith
removed_fewer (name ∷ names) es =
    let one = fewer (λ held. not (bytes_eq held.0 name)) es in
    let rest = removed_fewer names (without_attribute name es) in
    omega (arith, one, rest)

-- ---- Fields

-- a field is its name, its body and three bytes
pub written_len : (field : RawField) (rest : List RawField) → length (written (field ∷ rest)) ≡ length field.0 + (length field.1 + 3 + length (written rest))
written_len field rest =
    let a = length-append field.0 ((58 ∷ field.1) ++ ((13 ∷ 10 ∷ []) ++ written rest)) in
    let b = length-append (58 ∷ field.1) ((13 ∷ 10 ∷ []) ++ written rest) in
    omega (arith, a, b)

shorter_by : (q : RawField → Bool) (field : RawField) (rest : List RawField) (b : Bool) → length (written (filter q rest)) ≤ length (written rest)
    → length (written (if b then field ∷ filter q rest else filter q rest)) ≤ length (written (field ∷ rest))
shorter_by q field rest true h = let a = written_len field rest in let b = written_len field (filter q rest) in omega (arith, a, b, h)
shorter_by q field rest false h = let a = written_len field rest in omega (arith, a, h)

filtered_shorter : (q : RawField → Bool) (fields : List RawField) → length (written (filter q fields)) ≤ length (written fields)
filtered_shorter q [] = omega arith
filtered_shorter q (field ∷ rest) = shorter_by q field rest (q field) (filtered_shorter q rest)

pub fields_shorter : (names : List (List ℕ)) (fields : List RawField) → length (written (without_fields names fields)) ≤ length (written fields)
fields_shorter [] fields = omega arith
fields_shorter (name ∷ names) fields =
    let one = filtered_shorter (λ field. not (is_named name field)) fields in
    let rest = fields_shorter names (filter (λ field. not (is_named name field)) fields) in
    omega (arith, one, rest)

-- ---- Recipients

one_more_by : (list : List Mailbox) (a : Mailbox) (b : Bool) → (length list ≤ length (if b then list else list ++ a ∷ [])) × (length (if b then list else list ++ a ∷ []) ≤ length list + 1)
one_more_by list a true = (omega arith, omega arith)
one_more_by list a false = let e = length-append list (a ∷ []) in (omega (arith, e), omega (arith, e))

-- a list that grows by addresses grows by at most so many
pub all_more : (list more : List Mailbox) → (length list ≤ length (with_addresses list more)) × (length (with_addresses list more) ≤ length list + length more)
all_more list [] = (omega arith, omega arith)
all_more list (a ∷ more) =
    let one = one_more_by list a (has_same list a) in
    let rest = all_more (with_address list a) more in
    (omega (arith, one.0, rest.0), omega (arith, one.1, rest.1))

-- of some addresses one stays
pub some_distinct : (all : List Mailbox) → 1 ≤ length all → 1 ≤ length (distinct all)
some_distinct [] some = some
some_distinct (a ∷ more) some = (all_more (a ∷ []) more).0

pub few_distinct : (all : List Mailbox) → length (distinct all) ≤ length all
few_distinct all = let h = (all_more [] all).1 in omega (arith, h)

-- what grows by some addresses has one
pub some_behind : (list more : List Mailbox) → 1 ≤ length more → 1 ≤ length (with_addresses list more)
some_behind [] more some = some_distinct more some
some_behind (r ∷ list) more some = let h = (all_more (r ∷ list) more).0 in omega (arith, h)
