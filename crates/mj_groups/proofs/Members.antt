-- Groups that grow by one pair after the other.
use Rattle.std.proofs.Common.{◌≡◌, ℕ, suc, zero, ◌+◌, ◌<◌, ◌≤◌, Bool, true, false, ◌||◌, cond, not, List, [], ◌∷◌, ◌++◌, length, get_or, set, map, filter, if◌then◌else◌, refl, sym, ap, ◌∙◌, subst, true≢false, arith, append-nil}
use Rattle.std.proofs.lemmas.List.{map-append}
use Rattle.std.proofs.lemmas.List.Elements.{filter-append}
use Rattle.std.proofs.lemmas.List.Folds.{list_any-append}
use Rattle.std.specs.Cmp.{IsEquivalence}
use Rattle.std.specs.List.{AllByRecursion, IsDistinct, list_any, position_or_len, zip}
use Rattle.indexmap.specs.IndexSet.{insert_key}
use Rattle.mj_groups.specs.Groups.{different, having, with_key, with_keys}
use Rattle.mj_groups.specs.Members.{with_item}

-- ---- An item more

module _ {X : Type 0} (item : X) where
  -- at a number that a list has
  pub put_in : (index : ℕ) (lists : List (List X)) (list : List X) → index < length lists → set lists index (get_or lists index list ++ item ∷ []) ≡ with_item index item lists
  put_in index [] list within = absurd (omega arith)
  put_in zero (first ∷ lists) list within = refl
  put_in (suc index) (first ∷ lists) list within = ap (λ ls. first ∷ ls) (put_in index lists list (omega arith))

  -- at one behind all
  pub put_behind : (index : ℕ) (lists : List (List X)) → length lists ≤ index → lists ++ (item ∷ []) ∷ [] ≡ with_item index item lists
  put_behind index [] behind = refl
  put_behind zero (first ∷ lists) behind = absurd (omega arith)
  put_behind (suc index) (first ∷ lists) behind = ap (λ ls. first ∷ ls) (put_behind index lists (omega arith))

-- ---- The different keys

or_none : (b : Bool) → (b || false) ≡ b
or_none true = refl
or_none false = refl

or_true : (b : Bool) → (b || true) ≡ true
or_true true = refl
or_true false = refl

or_more : (a b c : Bool) → ((a || b) || c) ≡ (a || (b || c))
or_more true b c = refl
or_more false b c = refl

module _ {K : Type 0} (eq : K → K → Bool) where
  -- one key more is put to the different ones
  pub with_keys_more : (keys list : List K) (key : K) → with_keys eq keys (list ++ key ∷ []) ≡ with_key eq (with_keys eq keys list) key
  with_keys_more keys [] key = refl
  with_keys_more keys (k ∷ list) key = with_keys_more (with_key eq keys k) list key

module _ {K : Type 0} (eq : K → K → Bool) (laws : IsEquivalence eq) (key : K) where
  any_alike : (k : K) (ks : List K) → eq key k ≡ true → list_any (eq key) ks ≡ list_any (eq k) ks
  any_alike k [] same = refl
  any_alike k (y ∷ ks) same = let head = laws.congr key k y same in let rest = any_alike k ks same in λ i. head i || rest i

  held_by : (k : K) (ks : List K) (b c : Bool) → list_any (eq k) ks ≡ c → eq key k ≡ b
      → list_any (eq key) (if c then ks else ks ++ k ∷ []) ≡ (list_any (eq key) ks || b)
  held_by k ks true true there same = any_alike k ks same ∙ there ∙ sym (or_true (list_any (eq key) ks))
  held_by k ks false true there differs = sym (or_none (list_any (eq key) ks))
  held_by k ks b false absent same =
      list_any-append (eq key) ks (k ∷ []) ∙ ap (λ c. list_any (eq key) ks || (c || false)) same ∙ ap (λ c. list_any (eq key) ks || c) (or_none b)

  -- a key is held by the different ones of a list where it is held by all of them
  held : (keys list : List K) → list_any (eq key) (with_keys eq keys list) ≡ (list_any (eq key) keys || list_any (eq key) list)
  held keys [] = sym (or_none (list_any (eq key) keys))
  held keys (k ∷ list) =
      held (with_key eq keys k) list
      ∙ ap (λ b. b || list_any (eq key) list) (held_by k keys (eq key k) (list_any (eq k) keys) refl refl)
      ∙ or_more (list_any (eq key) keys) (eq key k) (list_any (eq key) list)

-- ---- The items of a key

module _ {K X : Type 0} (eq : K → K → Bool) (laws : IsEquivalence eq) (key : K) where
  none_by : (pair : K × X) (pairs : List (K × X)) (b : Bool) → ((list_any (eq key) (map (λ pair. pair.0) pairs) ≡ false) → having eq key pairs ≡ [])
      → (b || list_any (eq key) (map (λ pair. pair.0) pairs)) ≡ false
      → map (λ (pair : K × X). pair.1) (if b then pair ∷ filter (λ pair. eq key pair.0) pairs else filter (λ pair. eq key pair.0) pairs) ≡ []
  none_by pair pairs true later none = absurd (true≢false none)
  none_by pair pairs false later none = later none

  none_of : (pairs : List (K × X)) → list_any (eq key) (map (λ pair. pair.0) pairs) ≡ false → having eq key pairs ≡ []
  none_of [] none = refl
  none_of (pair ∷ pairs) none = none_by pair pairs (eq key pair.0) (none_of pairs) none

  -- a key that is not among the different ones has no items
  none_yet : (pairs : List (K × X)) → list_any (eq key) (different eq (map (λ pair. pair.0) pairs)) ≡ false → having eq key pairs ≡ []
  none_yet pairs absent = none_of pairs (sym (held eq laws key [] (map (λ pair. pair.0) pairs)) ∙ absent)

module _ {K X : Type 0} (eq : K → K → Bool) (laws : IsEquivalence eq) (pairs : List (K × X)) (key : K) (item : X) where
  abbrev more : List (K × X)
  more = pairs ++ (key, item) ∷ []

  last_by : (b : Bool) → map (λ (pair : K × X). pair.1) (if b then (key, item) ∷ [] else []) ≡ (if b then item ∷ [] else [])
  last_by true = refl
  last_by false = refl

  -- one pair more is one item more of its key
  having_more : (k : K) → having eq k more ≡ having eq k pairs ++ (if eq k key then item ∷ [] else [])
  having_more k =
      ap (map (λ pair. pair.1)) (filter-append (λ pair. eq k pair.0) pairs ((key, item) ∷ []))
      ∙ map-append (λ pair. pair.1) (filter (λ pair. eq k pair.0) pairs) (filter (λ pair. eq k pair.0) ((key, item) ∷ []))
      ∙ ap (λ xs. having eq k pairs ++ xs) (last_by (eq k key))

  of_key : (k : K) → eq key k ≡ true → having eq k more ≡ having eq k pairs ++ item ∷ []
  of_key k same = having_more k ∙ ap (λ b. having eq k pairs ++ (if b then item ∷ [] else [])) (laws.symm k key ∙ same)

  of_other : (k : K) → eq key k ≡ false → having eq k more ≡ having eq k pairs
  of_other k differs =
      having_more k ∙ ap (λ b. having eq k pairs ++ (if b then item ∷ [] else [])) (laws.symm k key ∙ differs) ∙ append-nil (having eq k pairs)

  of_others : (k : K) (ks : List K) → eq key k ≡ true → AllByRecursion (λ y. eq k y ≡ false) ks
      → map (λ k. having eq k more) ks ≡ map (λ k. having eq k pairs) ks
  of_others k [] same apart = refl
  of_others k (y ∷ ks) same apart =
      let head = of_other y (laws.congr key k y same ∙ apart.0) in
      let rest = of_others k ks same apart.1 in
      λ i. head i ∷ rest i

  first_stays : (k : K) (ks : List K) (c : Bool) → (if c then k ∷ ks else k ∷ (ks ++ key ∷ [])) ≡ k ∷ (if c then ks else ks ++ key ∷ [])
  first_stays k ks true = refl
  first_stays k ks false = refl

  next : (n : ℕ) → suc n ≡ 1 + n
  next n = omega arith

  put_at : (k : K) (ks : List K) (b : Bool) → eq key k ≡ b
      → IsDistinct eq (if b || list_any (eq key) ks then k ∷ ks else k ∷ (ks ++ key ∷ []))
      → (IsDistinct eq (insert_key eq ks key) → (list_any (eq key) ks ≡ false → having eq key pairs ≡ [])
      → map (λ k. having eq k more) (insert_key eq ks key) ≡ with_item (position_or_len (eq key) ks) item (map (λ k. having eq k pairs) ks))
      → ((b || list_any (eq key) ks) ≡ false → having eq key pairs ≡ [])
      → map (λ k. having eq k more) (if b || list_any (eq key) ks then k ∷ ks else k ∷ (ks ++ key ∷ []))
      ≡ with_item (cond (not b) (1 + position_or_len (eq key) ks) 0) item (having eq k pairs ∷ map (λ k. having eq k pairs) ks)
  unfolding IsDistinct
  put_at k ks true same apart later none =
      let rest = of_others k ks same apart.0 in
      λ i. of_key k same i ∷ rest i
  put_at k ks false differs apart later none =
      let stays = first_stays k ks (list_any (eq key) ks) in
      let apart_still : IsDistinct eq (k ∷ insert_key eq ks key) = subst (IsDistinct eq) stays apart in
      let rest = later apart_still.1 none in
      ap (map (λ k. having eq k more)) stays
      ∙ (λ i. of_other k differs i ∷ rest i)
      ∙ ap (λ index. with_item index item (map (λ k. having eq k pairs) (k ∷ ks))) (next (position_or_len (eq key) ks))

  having_put : (ks : List K) → IsDistinct eq (insert_key eq ks key) → (list_any (eq key) ks ≡ false → having eq key pairs ≡ [])
      → map (λ k. having eq k more) (insert_key eq ks key) ≡ with_item (position_or_len (eq key) ks) item (map (λ k. having eq k pairs) ks)
  having_put [] apart none = ap (λ xs. xs ∷ []) (of_key key (laws.refl key) ∙ ap (λ xs. xs ++ item ∷ []) (none refl))
  having_put (k ∷ ks) apart none = put_at k ks (eq key k) refl apart (having_put ks) none

  -- the item is put to the list of its key's place
  pub put_to_key : (ks next : List K) → ks ≡ different eq (map (λ pair. pair.0) pairs) → next ≡ insert_key eq ks key → IsDistinct eq next
      → map (λ k. having eq k (pairs ++ (key, item) ∷ [])) next ≡ with_item (position_or_len (eq key) ks) item (map (λ k. having eq k pairs) ks)
  put_to_key ks next so_far grown apart =
      ap (map (λ k. having eq k more)) grown
      ∙ having_put ks (subst (IsDistinct eq) grown apart)
      (λ absent. none_yet eq laws key pairs (ap (list_any (eq key)) (sym so_far) ∙ absent))

-- ---- Each key beside its items

module _ {K X : Type 0} (items : K → List X) where
  pub beside : (ks : List K) → zip ks (map items ks) ≡ map (λ key. (key, items key)) ks
  beside [] = refl
  beside (k ∷ ks) = ap (λ pairs. (k, items k) ∷ pairs) (beside ks)

module _ {K X Y : Type 0} (f : X → Y) where
  pub zipped : (ks : List K) (xs : List X) → map (λ pair. (pair.0, f pair.1)) (zip ks xs) ≡ zip ks (map f xs)
  zipped [] xs = refl
  zipped (k ∷ ks) [] = refl
  zipped (k ∷ ks) (x ∷ xs) = ap (λ pairs. (k, f x) ∷ pairs) (zipped ks xs)

-- where either has come to its end, nothing is to come
pub zip_none_right : {K X : Type 0} (ks : List K) (xs : List X) → length xs ≡ 0 → zip ks xs ≡ []
zip_none_right [] xs none = refl
zip_none_right (k ∷ ks) [] none = refl
zip_none_right (k ∷ ks) (x ∷ xs) none = absurd (omega arith)
