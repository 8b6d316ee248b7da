-- Masks beside verdicts.
use Rattle.std.proofs.Common.{◌≡◌, ◌∙◌, ℕ, ◌≤◌, Bool, true, false, List, [], ◌∷◌, length, map, refl, sym, ap, arith}
use Rattle.std.specs.Prelude.{replicate}
use Rattle.std.specs.List.{list_all, list_any}
use Rattle.std.proofs.lemmas.Bool.{and_parts, false≢true}
use Rattle.std.proofs.lemmas.List.{length-map}
use Rattle.mj_address.specs.Masks.{left, taken}
use Rattle.mj_address.proofs.Masks.{left_filter, taken_filter}
use Rattle.mj_mail.specs.declared.fact.Outcome.{Outcome}
use Rattle.mj_mail.specs.declared.mail.Mail.{Mail}
use Rattle.mj_plan.specs.declared.plan.Plan.{Plan}
use Rattle.mj_plan.specs.declared.plan.Step.{Step}
use Rattle.mj_container.specs.Matching.{Mailbox}
use Rattle.mj_container.specs.Running.{leave_failed, parted, served, split}
use Rattle.mj_container.specs.Verdict.{Verdict, Leaves, Takes}
use Rattle.mj_split.specs.declared.judge.Judged.{Judged}
use Rattle.mj_split.specs.declared.judge.Judged.TheVariants as judgement
use Rattle.mj_split.specs.Judged.{judged_as}

-- a mask that says the same of each recipient
pub same_of_all : (value : Bool) (recipients : List Mailbox) → replicate (length recipients) value ≡ map (λ r. value) recipients
same_of_all value [] = refl
same_of_all value (r ∷ recipients) = ap (λ mask. value ∷ mask) (same_of_all value recipients)

-- a mask that takes no one, and one that takes someone
pub none_taken : {X : Type 0} (mask : List Bool) (xs : List X) → list_any (λ b. b) mask ≡ false → taken mask xs ≡ []
none_taken [] xs none = refl
none_taken (b ∷ mask) [] none = refl
none_taken (true ∷ mask) (x ∷ xs) none = absurd (false≢true (sym none))
none_taken (false ∷ mask) (x ∷ xs) none = none_taken mask xs none

pub some_taken : {X : Type 0} (mask : List Bool) (xs : List X) → length mask ≡ length xs → list_any (λ b. b) mask ≡ true → taken mask xs ≡ [] → ⊥
some_taken [] xs size some gone = false≢true some
some_taken (b ∷ mask) [] size some gone = absurd (omega arith)
some_taken (true ∷ mask) (x ∷ xs) size some gone = cc
some_taken (false ∷ mask) (x ∷ xs) size some gone = some_taken mask xs (omega arith) some gone

-- each side has no more than all
pub taken_fewer : {X : Type 0} (mask : List Bool) (xs : List X) → length (taken mask xs) ≤ length xs
taken_fewer [] xs = omega arith
taken_fewer (b ∷ mask) [] = omega arith
taken_fewer (true ∷ mask) (x ∷ xs) = let h = taken_fewer mask xs in omega (arith, h)
taken_fewer (false ∷ mask) (x ∷ xs) = let h = taken_fewer mask xs in omega (arith, h)

pub left_fewer : {X : Type 0} (mask : List Bool) (xs : List X) → length (left mask xs) ≤ length xs
left_fewer [] xs = omega arith
left_fewer (b ∷ mask) [] = omega arith
left_fewer (true ∷ mask) (x ∷ xs) = let h = left_fewer mask xs in omega (arith, h)
left_fewer (false ∷ mask) (x ∷ xs) = let h = left_fewer mask xs in omega (arith, h)

-- and what all have, each side has
pub taken_all : {X : Type 0} (p : X → Bool) (mask : List Bool) (xs : List X) → list_all p xs ≡ true → list_all p (taken mask xs) ≡ true
taken_all p [] xs all = refl
taken_all p (b ∷ mask) [] all = refl
taken_all p (true ∷ mask) (x ∷ xs) all = let parts = and_parts (p x) (list_all p xs) all in rw (parts.0) (taken_all p mask xs parts.1)
taken_all p (false ∷ mask) (x ∷ xs) all = taken_all p mask xs (and_parts (p x) (list_all p xs) all).1

pub left_all : {X : Type 0} (p : X → Bool) (mask : List Bool) (xs : List X) → list_all p xs ≡ true → list_all p (left mask xs) ≡ true
left_all p [] xs all = refl
left_all p (b ∷ mask) [] all = refl
left_all p (true ∷ mask) (x ∷ xs) all = left_all p mask xs (and_parts (p x) (list_all p xs) all).1
left_all p (false ∷ mask) (x ∷ xs) all = let parts = and_parts (p x) (list_all p xs) all in rw (parts.0) (left_all p mask xs parts.1)

abbrev is_mask : Judged → Bool
is_mask (judgement.Leaves state reason) = false
is_mask (judgement.Takes mask) = true

abbrev mask_in : Judged → List Bool
mask_in (judgement.Leaves state reason) = []
mask_in (judgement.Takes mask) = mask

module _ (plan : Plan) (name : List ℕ) (number : ℕ) (step : Step) (mail : Mail) where
  -- the mask has a truth for each recipient
  pub masked_length : (v : Verdict) (mask : List Bool) → judged_as mail.recipients v ≡ judgement.Takes mask → length mask ≡ length mail.recipients
  masked_length (Leaves state reason) mask is = absurd (false≢true (ap is_mask is))
  masked_length (Takes test) mask is = ap (λ j. length (mask_in j)) (sym is) ∙ length-map mail.recipients test

  -- by the mask of a verdict
  pub masked : (v : Verdict) (mask : List Bool) → judged_as mail.recipients v ≡ judgement.Takes mask → (on : Mail → Outcome)
      → parted (served plan name number step on) on mail (taken mask mail.recipients) (left mask mail.recipients) ≡ split plan name number step on mail v
  masked (Leaves state reason) mask is on = absurd (false≢true (ap is_mask is))
  masked (Takes test) mask is on =
      let rs = mail.recipients in
      let same : mask ≡ map test rs = sym (ap mask_in is) in
      (λ i. parted (served plan name number step on) on mail ((ap (λ m. taken m rs) same ∙ taken_filter test rs) i) ((ap (λ m. left m rs) same ∙ left_filter test rs) i))

  -- by a verdict that lets the mail leave
  pub leaves : (v : Verdict) (state reason : List ℕ) → judged_as mail.recipients v ≡ judgement.Leaves state reason → (on : Mail → Outcome)
      → leave_failed name number reason state mail ≡ split plan name number step on mail v
  leaves (Leaves s r) state reason is on = let a : state ≡ s = cc in let b : reason ≡ r = cc in (λ i. leave_failed name number (b i) (a i) mail)
  leaves (Takes test) state reason is on = absurd (false≢true (sym (ap is_mask is)))
