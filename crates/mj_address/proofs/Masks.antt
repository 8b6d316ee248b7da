-- The sides of a mask.
use Rattle.std.proofs.Common.{◌≡◌, Bool, true, false, not, List, [], ◌∷◌, ◌++◌, length, map, filter, if◌then◌else◌, refl, sym, ap, ◌∙◌, ℕ, arith, append-nil, subst}
use Rattle.std.specs.List.{AllByRecursion, IsDistinct}
use Rattle.mj_address.specs.Masks.{taken, left}
use Rattle.mj_address.specs.Same.{AreRecipients}

module _ {X : Type 0} (hit : X → Bool) where
  taken_by : (x : X) (xs : List X) (b : Bool) → taken (map hit xs) xs ≡ filter hit xs
      → taken (b ∷ map hit xs) (x ∷ xs) ≡ (if b then x ∷ filter hit xs else filter hit xs)
  taken_by x xs true later = ap (λ ys. x ∷ ys) later
  taken_by x xs false later = later

  -- by a test, those that pass are taken
  pub taken_filter : (xs : List X) → taken (map hit xs) xs ≡ filter hit xs
  taken_filter [] = refl
  taken_filter (x ∷ xs) = taken_by x xs (hit x) (taken_filter xs)

  left_by : (x : X) (xs : List X) (b : Bool) → left (map hit xs) xs ≡ filter (λ y. not (hit y)) xs
      → left (b ∷ map hit xs) (x ∷ xs) ≡ (if not b then x ∷ filter (λ y. not (hit y)) xs else filter (λ y. not (hit y)) xs)
  left_by x xs true later = later
  left_by x xs false later = ap (λ ys. x ∷ ys) later

  -- and the others are left
  pub left_filter : (xs : List X) → left (map hit xs) xs ≡ filter (λ y. not (hit y)) xs
  left_filter [] = refl
  left_filter (x ∷ xs) = left_by x xs (hit x) (left_filter xs)

empty : (mask : List Bool) → length mask ≡ 0 → mask ≡ []
empty [] none = refl
empty (b ∷ mask) none = absurd (omega arith)

-- where nothing is to come, each side is whole
module _ {X : Type 0} (mask : List Bool) (xs so_far all : List X) (none : length mask ≡ 0) where
  pub taken_end : so_far ++ taken mask xs ≡ all → so_far ≡ all
  taken_end whole = let e = empty mask none in sym (append-nil so_far) ∙ ap (λ m. so_far ++ taken m xs) (sym e) ∙ whole

  pub left_end : so_far ++ left mask xs ≡ all → so_far ≡ all
  left_end whole = let e = empty mask none in sym (append-nil so_far) ∙ ap (λ m. so_far ++ left m xs) (sym e) ∙ whole

-- what holds of each item holds of each on either side
module _ {X : Type 0} (P : X → Type 0) where
  all_taken : (mask : List Bool) (xs : List X) → AllByRecursion P xs → AllByRecursion P (taken mask xs)
  all_taken [] xs all = tt
  all_taken (b ∷ mask) [] all = tt
  all_taken (true ∷ mask) (x ∷ xs) all = (all.0, all_taken mask xs all.1)
  all_taken (false ∷ mask) (x ∷ xs) all = all_taken mask xs all.1

  all_left : (mask : List Bool) (xs : List X) → AllByRecursion P xs → AllByRecursion P (left mask xs)
  all_left [] xs all = tt
  all_left (b ∷ mask) [] all = tt
  all_left (true ∷ mask) (x ∷ xs) all = all_left mask xs all.1
  all_left (false ∷ mask) (x ∷ xs) all = (all.0, all_left mask xs all.1)

-- no two on one side are the same where no two of all are
module _ {X : Type 0} (same : X → X → Bool) where
  distinct_taken : (mask : List Bool) (xs : List X) → IsDistinct same xs → IsDistinct same (taken mask xs)
  unfolding IsDistinct
  distinct_taken [] xs apart = tt
  distinct_taken (b ∷ mask) [] apart = tt
  distinct_taken (true ∷ mask) (x ∷ xs) apart = (all_taken (λ y. same x y ≡ false) mask xs apart.0, distinct_taken mask xs apart.1)
  distinct_taken (false ∷ mask) (x ∷ xs) apart = distinct_taken mask xs apart.1

  distinct_left : (mask : List Bool) (xs : List X) → IsDistinct same xs → IsDistinct same (left mask xs)
  unfolding IsDistinct
  distinct_left [] xs apart = tt
  distinct_left (b ∷ mask) [] apart = tt
  distinct_left (true ∷ mask) (x ∷ xs) apart = distinct_left mask xs apart.1
  distinct_left (false ∷ mask) (x ∷ xs) apart = (all_left (λ y. same x y ≡ false) mask xs apart.0, distinct_left mask xs apart.1)

-- so each side of a list of recipients is one
module _ (mask : List Bool) (list : List (List ℕ × List ℕ)) (all : AreRecipients list) where
  pub recipients_taken : AreRecipients (taken mask list)
  recipients_taken = record { addresses = all_taken _ mask list all.addresses; different = distinct_taken _ mask list all.different }

  pub recipients_left : AreRecipients (left mask list)
  recipients_left = record { addresses = all_left _ mask list all.addresses; different = distinct_left _ mask list all.different }

-- those that pass a test are one side
pub recipients_filtered : (test : List ℕ × List ℕ → Bool) (list : List (List ℕ × List ℕ)) → AreRecipients list → AreRecipients (filter test list)
recipients_filtered test list all = subst AreRecipients (taken_filter test list) (recipients_taken (map test list) list all)
