-- Lists of attributes in the order of their names: a pair that is put at its place, and look-ups before and after.
use Rattle.std.proofs.Common.{◌≡◌, ◌≢◌, ℕ, zero, suc, ◌+◌, ◌<◌, ◌≤◌, Bool, true, false, cond, not, List, [], ◌∷◌, length, slice_get, slice_set, slice_index_or, insert, filter, Some, None, Result, Ok, Err, IfOk, IfErr, length-set, refl, sym, ap, ◌∙◌, subst, arith}
use Rattle.std.specs.declared.cmp.Ordering.{Ordering}
use Rattle.std.specs.declared.cmp.Ordering.TheVariants.{Less, Equal, Greater}
use Rattle.std.specs.BTreeMap.{insert_entry}
use Rattle.std.specs.Cmp.{IsTotalOrder}
use Rattle.std.specs.List.{AllByRecursion, HoldsAt}
use Rattle.std.specs.List.Sorted.{IsPartitionPoint, IsStrictlySortedBy, IsBinarySearchResult, IsSearchInRange}
use Rattle.std.specs.Map.{keys_of}
use Rattle.std.specs.Ordering.{is_eq, is_lt, match_ordering, ordering_reverse}
use Rattle.std.specs.Str.{bytes_eq}
use Rattle.std.proofs.lemmas.Cmp.{nat_list_cmp_total, tied_itself}
use Rattle.std.proofs.lemmas.List.Kept.{IsStrictlySortedBy-filter}
use Rattle.std.proofs.lemmas.List.Sorted.{searchable_from_sorted}
use Rattle.std.proofs.lemmas.List.Edits.{length-insert}
use Rattle.std.proofs.lemmas.List.Filters.{length-filter_both}
use Rattle.std.proofs.lemmas.Map.Entries.{length-keys_of, lookup-filter-keys}
use Rattle.std.proofs.lemmas.Map.Keys.{Less-from_sorted}
use Rattle.std.proofs.lemmas.Map.Text.{is_eq-slice_cmp}
use Rattle.std.proofs.lemmas.Slice.Eq.{bytes_eq-Decides}
use Rattle.mj_mail.specs.declared.attributes.TheConstants.{MAX_ATTRIBUTES}
use Rattle.mj_mail.specs.Attributes.{byte_order, attribute_value, with_attribute, without_attribute, AreAttributes}

-- the element at a place has what all elements have
reached : {K : Type 0} (P : K → Type 0) (ks : List K) (i : ℕ) (k : K) → AllByRecursion P ks → slice_get ks i ≡ Some k → P k
reached P [] i k all at = absurd (cc)
reached P (y ∷ ks) zero k all at = let same : y ≡ k = cc in subst P same all.0
reached P (y ∷ ks) (suc i) k all at = reached P ks i k all.1 at

module _ {K : Type 0} {R : K → K → Ordering} (o : IsTotalOrder R) where
  after : (x y : K) → R x y ≡ Less → R y x ≡ Greater
  after x y h = o.antisymm y x ∙ ap ordering_reverse h

  before : (x y : K) → R x y ≡ Greater → R y x ≡ Less
  before x y h = o.antisymm y x ∙ ap ordering_reverse h

  all_above : (k x : K) (ks : List K) → R k x ≡ Less → AllByRecursion (λ y. R x y ≡ Less) ks → AllByRecursion (λ y. R k y ≡ Less) ks
  all_above k x [] h all = tt
  all_above k x (y ∷ ks) h all = (o.trans k x y h all.0, all_above k x ks h all.1)

module _ {K X : Type 0} {R : K → K → Ordering} (o : IsTotalOrder R) where
  step : (r : Ordering) (k : K) (v : X) (e : K × X) (es : List (K × X)) → R k e.0 ≡ r
      → insert_entry R (e ∷ es) k v ≡ match_ordering r ((k, v) ∷ e ∷ es) ((e.0, v) ∷ es) (e ∷ insert_entry R es k v)
  step r k v e es h = ap (λ q. match_ordering q ((k, v) ∷ e ∷ es) ((e.0, v) ∷ es) (e ∷ insert_entry R es k v)) h

  -- a pair put at the place that a search found for its key
  pub insert-in_order : (es : List (K × X)) (i : ℕ) (k : K) (v : X) → i ≤ length es
      → IsPartitionPoint (λ e. R e.0 k ≡ Less) (λ e. R e.0 k ≡ Greater) es i → insert es i (k, v) ≡ insert_entry R es k v
  insert-in_order [] zero k v within parts = refl
  insert-in_order [] (suc i) k v within parts = absurd (omega arith)
  insert-in_order (e ∷ es) zero k v within parts = sym (step Less k v e es (before o e.0 k (parts.1 0 e (omega arith) (omega arith))))
  insert-in_order (e ∷ es) (suc i) k v within parts =
      ap (λ l. e ∷ l) (insert-in_order es i k v (omega arith) (λ j d a b. parts.0 (suc j) d (omega arith) (omega arith), λ j d a b. parts.1 (suc j) d (omega arith) (omega arith)))
      ∙ sym (step Greater k v e es (after o e.0 k (parts.0 0 e (omega arith) (omega arith))))

  -- a pair with the key of the one in whose place it is put
  pub set-in_order : (es : List (K × X)) (i : ℕ) (k : K) (v : X) (old : K × X) → IsStrictlySortedBy R (keys_of es) → slice_get (keys_of es) i ≡ Some k
      → old ≡ slice_index_or es i old → slice_set es i (old.0, v) ≡ insert_entry R es k v
  unfolding IsStrictlySortedBy
  set-in_order [] i k v old up at is = absurd (cc)
  set-in_order (e ∷ es) zero k v old up at is =
      let same : e.0 ≡ k = cc in
      ap (λ q. (q.0, v) ∷ es) is ∙ sym (step Equal k v e es (subst (λ q. R q e.0 ≡ Equal) same (tied_itself o e.0)))
  set-in_order (e ∷ es) (suc i) k v old up at is =
      ap (λ l. e ∷ l) (set-in_order es i k v old up.1 at is) ∙ sym (step Greater k v e es (after o e.0 k (reached (λ y. R e.0 y ≡ Less) (keys_of es) i k up.0 at)))

  all_step : (P : K → Type 0) (r : Ordering) (k : K) (v : X) (e : K × X) (es rest : List (K × X)) → P k → AllByRecursion P (keys_of (e ∷ es)) → AllByRecursion P (keys_of rest)
      → AllByRecursion P (keys_of (match_ordering r ((k, v) ∷ e ∷ es) ((e.0, v) ∷ es) (e ∷ rest)))
  all_step P Less k v e es rest one all others = (one, all)
  all_step P Equal k v e es rest one all others = all
  all_step P Greater k v e es rest one all others = (all.0, others)

  -- each key has what the earlier ones and the new one have
  all_put : (P : K → Type 0) (es : List (K × X)) (k : K) (v : X) → P k → AllByRecursion P (keys_of es) → AllByRecursion P (keys_of (insert_entry R es k v))
  all_put P [] k v one all = (one, tt)
  all_put P (e ∷ es) k v one all = all_step P (R k e.0) k v e es (insert_entry R es k v) one all (all_put P es k v one all.1)

  up_step : (r : Ordering) (k : K) (v : X) (e : K × X) (es : List (K × X)) → R k e.0 ≡ r → IsStrictlySortedBy R (keys_of (e ∷ es))
      → IsStrictlySortedBy R (keys_of (insert_entry R es k v)) → IsStrictlySortedBy R (keys_of (match_ordering r ((k, v) ∷ e ∷ es) ((e.0, v) ∷ es) (e ∷ insert_entry R es k v)))
  unfolding IsStrictlySortedBy
  up_step Less k v e es h up others = ((h, all_above o k e.0 (keys_of es) h up.0), up)
  up_step Equal k v e es h up others = up
  up_step Greater k v e es h up others = (all_put (λ y. R e.0 y ≡ Less) es k v (before o k e.0 h) up.0, others)

  -- the keys ascend still
  pub insert_entry-up : (es : List (K × X)) (k : K) (v : X) → IsStrictlySortedBy R (keys_of es) → IsStrictlySortedBy R (keys_of (insert_entry R es k v))
  unfolding IsStrictlySortedBy
  insert_entry-up [] k v up = (tt, tt)
  insert_entry-up (e ∷ es) k v up = up_step (R k e.0) k v e es refl up (insert_entry-up es k v up.1)

-- ---- a binary search among attributes in order

-- two names are equal where the order says so
same_name : (a b : List ℕ) → byte_order a b ≡ Equal → a ≡ b
same_name a b h = (bytes_eq-Decides a b).0 (sym (is_eq-slice_cmp a b) ∙ ap is_eq h)

key_at : (es : List (List ℕ × List ℕ)) (i : ℕ) (d : List ℕ × List ℕ) → slice_index_or (keys_of es) i d.0 ≡ (slice_index_or es i d).0
key_at [] i d = refl
key_at (e ∷ es) zero d = refl
key_at (e ∷ es) (suc i) d = key_at es i d

key_found : (es : List (List ℕ × List ℕ)) (i : ℕ) (name : List ℕ) → i < length es → HoldsAt (λ e. byte_order e.0 name ≡ Equal) es i → slice_get (keys_of es) i ≡ Some name
key_found [] i name within held = absurd (omega arith)
key_found (e ∷ es) zero name within held = ap Some (same_name e.0 name (held e))
key_found (e ∷ es) (suc i) name within held = key_found es i name (omega arith) held

-- it found the name
pub found_from : (es : List (List ℕ × List ℕ)) (name : List ℕ) (r : Result ℕ ℕ) → IsSearchInRange r (length es) → IsBinarySearchResult (λ e. byte_order e.0 name) es r
    → IfOk r (λ k. slice_get (keys_of es) k ≡ Some name)
found_from es name (Ok i) within held = key_found es i name within held
found_from es name (Err i) within held = tt

rises : (es : List (List ℕ × List ℕ)) (k : ℕ) (d : List ℕ × List ℕ) → IsStrictlySortedBy byte_order (keys_of es) → k + 1 < length es
    → is_lt (byte_order (slice_index_or es (k + 1) d).0 (slice_index_or es k d).0) ≡ false
rises es k d up within =
    let size = length-keys_of es in
    let less = Less-from_sorted byte_order (keys_of es) k (k + 1) d.0 up (omega arith) (omega arith) in
    let more : byte_order (slice_index_or es (k + 1) d).0 (slice_index_or es k d).0 ≡ Greater =
    rw (← key_at es (k + 1) d, ← key_at es k d) (after nat_list_cmp_total (slice_index_or (keys_of es) k d.0) (slice_index_or (keys_of es) (k + 1) d.0) less) in
    ap is_lt more

-- or the place where it belongs
pub gap_from : (es : List (List ℕ × List ℕ)) (name : List ℕ) (r : Result ℕ ℕ) → IsStrictlySortedBy byte_order (keys_of es) → IsBinarySearchResult (λ e. byte_order e.0 name) es r
    → IfErr r (λ k. IsPartitionPoint (λ e. byte_order e.0 name ≡ Less) (λ e. byte_order e.0 name ≡ Greater) es k)
gap_from es name (Ok i) up held = tt
gap_from es name (Err i) up held = held (searchable_from_sorted nat_list_cmp_total (λ e. e.0) es name (λ k d low within. rises es k d up within))

-- ---- what stands after a change

-- a pair in the place of the one with its name
pub replaced : (es : List (List ℕ × List ℕ)) (i : ℕ) (name value : List ℕ) (old : List ℕ × List ℕ) → AreAttributes es → slice_get (keys_of es) i ≡ Some name
    → old ≡ slice_index_or es i old → slice_set es i (old.0, value) ≡ with_attribute name value es
replaced es i name value old form at is = set-in_order nat_list_cmp_total es i name value old form.ascending at is

pub length-replaced : (es : List (List ℕ × List ℕ)) (i : ℕ) (name value : List ℕ) (old : List ℕ × List ℕ) → AreAttributes es → slice_get (keys_of es) i ≡ Some name
    → old ≡ slice_index_or es i old → length (with_attribute name value es) ≡ length es
length-replaced es i name value old form at is = ap length (sym (replaced es i name value old form at is)) ∙ length-set es i (old.0, value)

-- a pair at the place of its name
pub added : (es : List (List ℕ × List ℕ)) (i : ℕ) (name value : List ℕ) → i ≤ length es → IsPartitionPoint (λ e. byte_order e.0 name ≡ Less) (λ e. byte_order e.0 name ≡ Greater) es i
    → insert es i (name, value) ≡ with_attribute name value es
added es i name value within parts = insert-in_order nat_list_cmp_total es i name value within parts

pub length-added : (es : List (List ℕ × List ℕ)) (i : ℕ) (name value : List ℕ) → i ≤ length es → IsPartitionPoint (λ e. byte_order e.0 name ≡ Less) (λ e. byte_order e.0 name ≡ Greater) es i
    → length (with_attribute name value es) ≡ length es + 1
length-added es i name value within parts = ap length (sym (added es i name value within parts)) ∙ length-insert es i (name, value) within

pub with_form : (es : List (List ℕ × List ℕ)) (name value : List ℕ) → AreAttributes es → length (with_attribute name value es) ≤ MAX_ATTRIBUTES → AreAttributes (with_attribute name value es)
with_form es name value form fits = record { ascending = insert_entry-up nat_list_cmp_total es name value form.ascending; few = fits }

keys_step : (p : List ℕ → Bool) (b : Bool) (e : List ℕ × List ℕ) (es : List (List ℕ × List ℕ)) (ks : List (List ℕ)) → keys_of es ≡ ks → keys_of (cond b (e ∷ es) es) ≡ cond b (e.0 ∷ ks) ks
keys_step p true e es ks same = ap (λ l. e.0 ∷ l) same
keys_step p false e es ks same = same

keys_of-filter : (p : List ℕ → Bool) (es : List (List ℕ × List ℕ)) → keys_of (filter (λ e. p e.0) es) ≡ filter p (keys_of es)
keys_of-filter p [] = refl
keys_of-filter p (e ∷ es) = keys_step p (p e.0) e (filter (λ e. p e.0) es) (filter p (keys_of es)) (keys_of-filter p es)

pub without_form : (es : List (List ℕ × List ℕ)) (name : List ℕ) → AreAttributes es → AreAttributes (without_attribute name es)
without_form es name form =
    let p : List ℕ → Bool = λ held. not (bytes_eq held name) in
    let size = length-filter_both (λ e. p e.0) (λ e. not (p e.0)) (λ e. refl) es in
    let few = form.few in
    record {
      ascending = rw (keys_of-filter p es) (IsStrictlySortedBy-filter byte_order p (keys_of es) form.ascending);
      few = omega arith;
    }

-- ---- look-ups

apart : (a b : List ℕ) (r : Ordering) → byte_order a b ≡ r → is_eq r ≡ false → bytes_eq a b ≡ false
apart a b r h differs = sym (is_eq-slice_cmp a b) ∙ ap is_eq h ∙ differs

itself : (a b : List ℕ) → a ≡ b → bytes_eq a b ≡ true
itself a b same = (bytes_eq-Decides a b).1 same

other_name : (a b : List ℕ) (r : Bool) → bytes_eq a b ≡ r → a ≢ b → bytes_eq a b ≡ false
other_name a b true h other = absurd (other ((bytes_eq-Decides a b).0 h))
other_name a b false h other = h

-- the value at the place of its name
pub value_found : (es : List (List ℕ × List ℕ)) (i : ℕ) (name : List ℕ) (pair : List ℕ × List ℕ) → IsStrictlySortedBy byte_order (keys_of es) → slice_get (keys_of es) i ≡ Some name
    → pair ≡ slice_index_or es i pair → attribute_value name es ≡ Some pair.1
unfolding IsStrictlySortedBy
value_found [] i name pair up at is = absurd (cc)
value_found (e ∷ es) zero name pair up at is =
    let same : e.0 ≡ name = cc in
    ap (λ b. cond b (Some e.1) (attribute_value name es)) (itself e.0 name same) ∙ ap (λ q. Some q.1) (sym is)
value_found (e ∷ es) (suc i) name pair up at is =
    let other = apart e.0 name Less (reached (λ y. byte_order e.0 y ≡ Less) (keys_of es) i name up.0 at) refl in
    ap (λ b. cond b (Some e.1) (attribute_value name es)) other ∙ value_found es i name pair up.1 at is

-- no value where a search ended between two names
pub no_value : (es : List (List ℕ × List ℕ)) (i : ℕ) (name : List ℕ) → IsPartitionPoint (λ e. byte_order e.0 name ≡ Less) (λ e. byte_order e.0 name ≡ Greater) es i
    → attribute_value name es ≡ None
no_value [] i name parts = refl
no_value (e ∷ es) zero name parts =
    let other = apart e.0 name Greater (parts.1 0 e (omega arith) (omega arith)) refl in
    ap (λ b. cond b (Some e.1) (attribute_value name es)) other
    ∙ no_value es zero name (λ j d a b. absurd (omega arith), λ j d a b. parts.1 (suc j) d (omega arith) (omega arith))
no_value (e ∷ es) (suc i) name parts =
    let other = apart e.0 name Less (parts.0 0 e (omega arith) (omega arith)) refl in
    ap (λ b. cond b (Some e.1) (attribute_value name es)) other
    ∙ no_value es i name (λ j d a b. parts.0 (suc j) d (omega arith) (omega arith), λ j d a b. parts.1 (suc j) d (omega arith) (omega arith))

set_step : (r : Ordering) (name value : List ℕ) (e : List ℕ × List ℕ) (es rest : List (List ℕ × List ℕ)) → byte_order name e.0 ≡ r → attribute_value name rest ≡ Some value
    → attribute_value name (match_ordering r ((name, value) ∷ e ∷ es) ((e.0, value) ∷ es) (e ∷ rest)) ≡ Some value
set_step Less name value e es rest h set = ap (λ b. cond b (Some value) (attribute_value name (e ∷ es))) (itself name name refl)
set_step Equal name value e es rest h set = ap (λ b. cond b (Some value) (attribute_value name es)) (itself e.0 name (sym (same_name name e.0 h)))
set_step Greater name value e es rest h set = ap (λ b. cond b (Some e.1) (attribute_value name rest)) (apart e.0 name Less (before nat_list_cmp_total name e.0 h) refl) ∙ set

-- the name that was set has the new value
pub value_set : (es : List (List ℕ × List ℕ)) (name value : List ℕ) → attribute_value name (with_attribute name value es) ≡ Some value
value_set [] name value = ap (λ b. cond b (Some value) None) (itself name name refl)
value_set (e ∷ es) name value = set_step (byte_order name e.0) name value e es (with_attribute name value es) refl (value_set es name value)

other_step : (r : Ordering) (name value other : List ℕ) (e : List ℕ × List ℕ) (es rest : List (List ℕ × List ℕ)) → byte_order name e.0 ≡ r → bytes_eq name other ≡ false
    → attribute_value other rest ≡ attribute_value other es → attribute_value other (match_ordering r ((name, value) ∷ e ∷ es) ((e.0, value) ∷ es) (e ∷ rest)) ≡ attribute_value other (e ∷ es)
other_step Less name value other e es rest h differs same = ap (λ b. cond b (Some value) (attribute_value other (e ∷ es))) differs
other_step Equal name value other e es rest h differs same =
    let not_it : bytes_eq e.0 other ≡ false = subst (λ q. bytes_eq q other ≡ false) (same_name name e.0 h) differs in
    ap (λ b. cond b (Some value) (attribute_value other es)) not_it ∙ sym (ap (λ b. cond b (Some e.1) (attribute_value other es)) not_it)
other_step Greater name value other e es rest h differs same = ap (λ l. cond (bytes_eq e.0 other) (Some e.1) l) same

value_besides : (es : List (List ℕ × List ℕ)) (name value other : List ℕ) → bytes_eq name other ≡ false → attribute_value other (with_attribute name value es) ≡ attribute_value other es
value_besides [] name value other differs = ap (λ b. cond b (Some value) None) differs
value_besides (e ∷ es) name value other differs = other_step (byte_order name e.0) name value other e es (with_attribute name value es) refl differs (value_besides es name value other differs)

-- and each other name has the value that it had
pub other_value_set : (es : List (List ℕ × List ℕ)) (name value other : List ℕ) → other ≢ name → attribute_value other (with_attribute name value es) ≡ attribute_value other es
other_value_set es name value other differs = value_besides es name value other (other_name name other (bytes_eq name other) refl (λ same. differs (sym same)))

-- a name that was taken out has no value
pub value_removed : (es : List (List ℕ × List ℕ)) (name : List ℕ) → attribute_value name (without_attribute name es) ≡ None
value_removed es name = lookup-filter-keys (λ held. bytes_eq held name) (λ held. not (bytes_eq held name)) false (λ k h. ap not h) es

-- and each other name has the value that it had
pub other_value_removed : (es : List (List ℕ × List ℕ)) (name other : List ℕ) → other ≢ name → attribute_value other (without_attribute name es) ≡ attribute_value other es
other_value_removed es name other differs =
    lookup-filter-keys (λ held. bytes_eq held other) (λ held. not (bytes_eq held name)) true
    (λ k h. ap not (other_name k name (bytes_eq k name) refl (λ same. differs (sym ((bytes_eq-Decides k other).0 h) ∙ same)))) es
