-- An expansion has an address at least, and a fault a short text.
use Rattle.std.proofs.Common.{◌≡◌, ◌∙◌, ℕ, zero, suc, ◌+◌, ◌≤◌, Bool, true, false, List, [], ◌∷◌, ◌++◌, length, sym, ap, arith, length-append, Option, Some, None, Ok, Err, refl}
use Rattle.std.specs.Prelude.{nat_lt, nat_le, if◌then◌else◌, codes}
use Rattle.std.specs.List.{list_all, find}
use Rattle.std.proofs.lemmas.Bool.{and_parts}
use Rattle.mj_terms.specs.Answers.{◌>>=◌}
use Rattle.mj_address.specs.Grammar.{Mailbox}
use Rattle.mj_address.specs.Same.{distinct, same_address, with_addresses}
use Rattle.mj_address.specs.Short.{is_short, is_short_domain}
use Rattle.mj_address.proofs.Short.{added_short, appended_short, distinct_short}
use Rattle.mj_mail.specs.declared.limits.TheConstants.{MAX_RECIPIENTS}
use Rattle.mj_mail.specs.Rules.{has_recipients}
use Rattle.mj_plan.specs.declared.plan.Mapping.{Mapping}
use Rattle.mj_plan.specs.declared.plan.Mapping.TheVariants.{Addresses, Error, Host}
use Rattle.mj_container.specs.declared.rewrite_fault.RewriteFault.TheVariants.{TooMany}
use Rattle.mj_plan.specs.Forms.{is_printable}
use Rattle.mj_plan.specs.Rewriting.{fits, mapping_of}
use Rattle.mj_plan.specs.Sound.{has_items, is_mapping}
use Rattle.mj_container.specs.declared.rewrite_fault.TheConstants.{MAX_RESULTS, MAX_ROUNDS}
use Rattle.mj_container.specs.Expansion.{Expanded, Expands, added, at_most_all, expand, expansion, fault_text, mapped, rewritten, rewritten_behind, settled, target, targets}
use Rattle.mj_container.proofs.Changes.{some_behind, some_distinct}
use Rattle.mj_container.proofs.Facts.{both_true, le_of, of_le, shorter}

-- so many addresses at least were found, or the fault has a short text
abbrev Grows : ℕ → List Mailbox → Expanded → Type 0
Grows more found (Ok all) = length found + more ≤ length all
Grows more found (Err fault) = length (fault_text fault) ≤ 700

-- one expansion finds an address
abbrev FindsOne : Expands → Type 0
FindsOne expand = (address : Mailbox) (found : List Mailbox) → Grows 1 found (expand address found)

one_added_by : (address : Mailbox) (found : List Mailbox) (b : Bool) (other : Expanded) → Grows 1 found other → Grows 1 found (if b then Ok (found ++ address ∷ []) else other)
one_added_by address found true other h = let e = length-append found (address ∷ []) in omega (arith, e)
one_added_by address found false other h = h

one_added : FindsOne added
one_added address found = one_added_by address found (nat_lt (length found) MAX_RESULTS) (Err TooMany) (omega arith)

either : (expand : Expands) (to : Mailbox) (found : List Mailbox) (b : Bool) → FindsOne expand → Grows 1 found (if b then added to found else expand to found)
either expand to found true one = one_added to found
either expand to found false one = one to found

-- more than before, where that was more already
longer : (n : ℕ) (found all : List Mailbox) (r : Expanded) → length found + 1 ≤ length all → Grows n all r → Grows (suc n) found r
longer n found all (Ok every) one h = omega (arith, one, h)
longer n found all (Err fault) one h = h

behind : (n : ℕ) (found : List Mailbox) (first : Expanded) (next : List Mailbox → Expanded) → Grows 1 found first → ((all : List Mailbox) → Grows n all (next all))
    → Grows (suc n) found (first >>= next)
behind n found (Err fault) next one rest = one
behind n found (Ok all) next one rest = longer n found all (next all) one (rest all)

targets_grow : (expand : Expands) → FindsOne expand → (address : Mailbox) (to found : List Mailbox) → Grows (length to) found (targets expand address to found)
targets_grow expand one address [] found = omega arith
targets_grow expand one address (to ∷ more) found =
    behind (length more) found (target expand address to found) (targets expand address more) (either expand to found (same_address to address) one) (targets_grow expand one address more)

-- some are more than one
fewer_grow : (n : ℕ) (found : List Mailbox) (r : Expanded) → 1 ≤ n → Grows n found r → Grows 1 found r
fewer_grow n found (Ok all) some h = omega (arith, some, h)
fewer_grow n found (Err fault) some h = h

-- the mapping that is found has its form
found_passes_by : (test p : Mapping → Bool) (x y : Mapping) (rest : Option Mapping) (b : Bool) → (if b then Some x else rest) ≡ Some y → p x ≡ true → (rest ≡ Some y → p y ≡ true) → p y ≡ true
found_passes_by test p x y rest true e here later = let same : x ≡ y = cc in sym (ap p same) ∙ here
found_passes_by test p x y rest false e here later = later e

found_passes : (test p : Mapping → Bool) (mappings : List Mapping) (y : Mapping) → find test mappings ≡ Some y → list_all p mappings ≡ true → p y ≡ true
found_passes test p [] y e all = cc
found_passes test p (x ∷ mappings) y e all =
    let parts = and_parts (p x) (list_all p mappings) all in
    found_passes_by test p x y (find test mappings) (test x) e parts.0 (λ f. found_passes test p mappings y f parts.1)

mapped_grows : (expand : Expands) → FindsOne expand → (address : Mailbox) (m : Option Mapping) (found : List Mailbox) → ((y : Mapping) → m ≡ Some y → is_mapping y ≡ true)
    → Grows 1 found (mapped expand address m found)
mapped_grows expand one address None found formed = one_added address found
mapped_grows expand one address (Some (Addresses from to)) found formed =
    let few = (and_parts (has_items 100 to) (list_all is_short to) (formed (Addresses from to) refl)).0 in
    let some = le_of 1 (length to) (and_parts (nat_le 1 (length to)) (nat_le (length to) 100) few).0 in
    fewer_grow (length to) found (targets expand address to found) some (targets_grow expand one address to found)
mapped_grows expand one address (Some (Error from text)) found formed =
    let short = shorter is_printable 1 512 text (formed (Error from text) refl) in
    let e = length-append (codes "ErrorMapping ") text in
    omega (arith, short, e)
mapped_grows expand one address (Some (Host from to)) found formed = targets_grow expand one address ((address.0, to) ∷ []) found

settled_grows : (address : Mailbox) (m : Option Mapping) (found : List Mailbox) → Grows 1 found (settled address m found)
settled_grows address None found = one_added address found
settled_grows address (Some mapping) found = omega arith

module _ (mappings : List Mapping) (formed : list_all is_mapping mappings ≡ true) where
  expand_grows : (rounds : ℕ) → FindsOne (expand mappings rounds)
  expand_grows zero address found = settled_grows address (mapping_of address mappings) found
  expand_grows (suc rounds) address found =
      mapped_grows (expand mappings rounds) (expand_grows rounds) address (mapping_of address mappings) found
      (λ y e. found_passes (fits address) is_mapping mappings y e formed)

  -- an address becomes one at least
  abbrev HasOne : Expanded → Type 0
  HasOne (Ok all) = 1 ≤ length all
  HasOne (Err fault) = length (fault_text fault) ≤ 700

  different : (r : Expanded) → Grows 1 [] r → HasOne (r >>= (λ all. Ok (distinct all)))
  different (Ok all) h = some_distinct all h
  different (Err fault) h = h

  expansion_some : (address : Mailbox) → HasOne (expansion mappings address)
  expansion_some address = different (expand mappings MAX_ROUNDS address []) (expand_grows MAX_ROUNDS address [])

  -- one to 500 recipients, or a short text
  abbrev pub AreRewritten : Expanded → Type 0
  AreRewritten (Ok recipients) = has_recipients recipients ≡ true
  AreRewritten (Err fault) = length (fault_text fault) ≤ 700

  few_by : (all : List Mailbox) (b : Bool) → nat_le (length all) MAX_RECIPIENTS ≡ b → 1 ≤ length all → (next : List Mailbox → Expanded)
      → (has_recipients all ≡ true → AreRewritten (next all)) → AreRewritten ((if b then Ok all else Err TooMany) >>= next)
  few_by all true e some next h = h (both_true (nat_le 1 (length all)) (nat_le (length all) MAX_RECIPIENTS) (of_le 1 (length all) some) e)
  few_by all false e some next h = omega arith

  step : (found : List Mailbox) (r : Expanded) → HasOne r → (next : List Mailbox → Expanded) → ((all : List Mailbox) → has_recipients all ≡ true → AreRewritten (next all))
      → AreRewritten (r >>= (λ to. at_most_all (with_addresses found to) >>= next))
  step found (Ok to) some next h =
      let all = with_addresses found to in
      few_by all (nat_le (length all) MAX_RECIPIENTS) refl (some_behind found to some) next (h all)
  step found (Err fault) some next h = some

  behind_rewritten : (found recipients : List Mailbox) → has_recipients found ≡ true → AreRewritten (rewritten_behind mappings found recipients)
  behind_rewritten found [] some = some
  behind_rewritten found (r ∷ more) some =
      step found (expansion mappings r) (expansion_some r) (λ all. rewritten_behind mappings all more) (λ all filled. behind_rewritten all more filled)

  pub are_rewritten : (recipients : List Mailbox) → 1 ≤ length recipients → AreRewritten (rewritten mappings recipients)
  are_rewritten [] some = absurd (omega (arith, some))
  are_rewritten (r ∷ more) some =
      step [] (expansion mappings r) (expansion_some r) (λ all. rewritten_behind mappings all more) (λ all filled. behind_rewritten all more filled)

-- ---- Of short addresses an expansion has short ones

abbrev pub AreShort : Expanded → Type 0
AreShort (Ok all) = list_all is_short all ≡ true
AreShort (Err fault) = Unit {0}

abbrev KeepsShort : Expands → Type 0
KeepsShort expand = (address : Mailbox) (found : List Mailbox) → is_short address ≡ true → list_all is_short found ≡ true → AreShort (expand address found)

short_behind : (first : Expanded) (next : List Mailbox → Expanded) → AreShort first → ((all : List Mailbox) → list_all is_short all ≡ true → AreShort (next all)) → AreShort (first >>= next)
short_behind (Ok all) next short rest = rest all short
short_behind (Err fault) next short rest = tt

-- these addresses, or too many
short_when : (all : List Mailbox) (b : Bool) → list_all is_short all ≡ true → AreShort (if b then Ok all else Err TooMany)
short_when all true short = short
short_when all false short = tt

added_is_short : KeepsShort added
added_is_short address found short all = short_when (found ++ address ∷ []) (nat_lt (length found) MAX_RESULTS) (appended_short found (address ∷ []) all (both_true (is_short address) true short refl))

target_short_by : (expand : Expands) (to : Mailbox) (found : List Mailbox) (b : Bool) → KeepsShort expand → is_short to ≡ true → list_all is_short found ≡ true
    → AreShort (if b then added to found else expand to found)
target_short_by expand to found true keeps short all = added_is_short to found short all
target_short_by expand to found false keeps short all = keeps to found short all

targets_short : (expand : Expands) → KeepsShort expand → (address : Mailbox) (to found : List Mailbox) → list_all is_short to ≡ true → list_all is_short found ≡ true
    → AreShort (targets expand address to found)
targets_short expand keeps address [] found short all = all
targets_short expand keeps address (to ∷ more) found short all =
    let each = and_parts (is_short to) (list_all is_short more) short in
    short_behind (target expand address to found) (targets expand address more) (target_short_by expand to found (same_address to address) keeps each.0 all)
    (λ others passed. targets_short expand keeps address more others each.1 passed)

mapped_is_short : (expand : Expands) → KeepsShort expand → (address : Mailbox) (m : Option Mapping) (found : List Mailbox) → ((y : Mapping) → m ≡ Some y → is_mapping y ≡ true)
    → is_short address ≡ true → list_all is_short found ≡ true → AreShort (mapped expand address m found)
mapped_is_short expand keeps address None found formed short all = added_is_short address found short all
mapped_is_short expand keeps address (Some (Addresses from to)) found formed short all =
    targets_short expand keeps address to found (and_parts (has_items 100 to) (list_all is_short to) (formed (Addresses from to) refl)).1 all
mapped_is_short expand keeps address (Some (Error from text)) found formed short all = tt
mapped_is_short expand keeps address (Some (Host from to)) found formed short all =
    let local = (and_parts (nat_le (length address.0) 64) (is_short_domain address.1) short).0 in
    let there = both_true (nat_le (length address.0) 64) (is_short_domain to) local (formed (Host from to) refl) in
    targets_short expand keeps address ((address.0, to) ∷ []) found (both_true (is_short (address.0, to)) true there refl) all

settled_short : (address : Mailbox) (m : Option Mapping) (found : List Mailbox) → is_short address ≡ true → list_all is_short found ≡ true → AreShort (settled address m found)
settled_short address None found short all = added_is_short address found short all
settled_short address (Some mapping) found short all = tt

module _ (mappings : List Mapping) (formed : list_all is_mapping mappings ≡ true) where
  expand_short : (rounds : ℕ) → KeepsShort (expand mappings rounds)
  expand_short zero address found short all = settled_short address (mapping_of address mappings) found short all
  expand_short (suc rounds) address found short all =
      mapped_is_short (expand mappings rounds) (expand_short rounds) address (mapping_of address mappings) found
      (λ y e. found_passes (fits address) is_mapping mappings y e formed) short all

  expansion_short : (address : Mailbox) → is_short address ≡ true → AreShort (expansion mappings address)
  expansion_short address short =
      short_behind (expand mappings MAX_ROUNDS address []) (λ all. Ok (distinct all)) (expand_short MAX_ROUNDS address [] short refl) (λ all passed. distinct_short all passed)

  behind_short : (found recipients : List Mailbox) → list_all is_short found ≡ true → list_all is_short recipients ≡ true → AreShort (rewritten_behind mappings found recipients)
  behind_short found [] all short = all
  behind_short found (r ∷ more) all short =
      let each = and_parts (is_short r) (list_all is_short more) short in
      short_behind (expansion mappings r) (λ to. at_most_all (with_addresses found to) >>= (λ all. rewritten_behind mappings all more)) (expansion_short r each.0)
      (λ to passed.
      short_behind (at_most_all (with_addresses found to)) (λ all. rewritten_behind mappings all more) (short_when (with_addresses found to) (nat_le (length (with_addresses found to)) MAX_RECIPIENTS) (added_short found to all passed))
      (λ others known. behind_short others more known each.1))

  pub rewritten_short : (recipients : List Mailbox) → list_all is_short recipients ≡ true → AreShort (rewritten mappings recipients)
  rewritten_short recipients short = behind_short [] recipients refl short
