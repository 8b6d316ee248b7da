-- Where the rows of a rewrite table stand, by what they are from.
use Rattle.std.specs.Prelude.{◌≡◌, ℕ, min, Bool, false, List, Option, None, Some}
use Rattle.std.specs.List.{position}
use Rattle.indexmap.specs.IndexMap.{IndexMap, get}
use Rattle.mj_terms.specs.Text.{same_text}
use Rattle.mj_address.specs.Grammar.{Mailbox}
use Rattle.mj_address.specs.Same.{same_address}
use Rattle.mj_plan.specs.declared.plan.Mapping.{Mapping}
use Rattle.mj_plan.specs.declared.plan.Mapping.TheVariants.{Addresses, Error, Host}

-- the row is from this address
abbrev pub is_from_address : Mailbox → Mapping → Bool
is_from_address address (Addresses from to) = same_address address from
is_from_address address (Error from text) = same_address address from
is_from_address address (Host from to) = false

-- the row is from all addresses at this domain
abbrev pub is_from_domain : List ℕ → Mapping → Bool
is_from_domain domain (Addresses from to) = false
is_from_domain domain (Error from text) = false
is_from_domain domain (Host from to) = same_text domain from

-- A map of places answers for the rows: it has the place of the first row that is from what is looked for, counted from 0, and nothing
-- where there is none.
abbrev pub HasFirstPlaces : {K S : Type 0} → (K → K → Bool) → (K → Mapping → Bool) → List Mapping → IndexMap K ℕ S → Type 0
HasFirstPlaces eq is_from rows places = (wanted : _) → get eq places wanted ≡ position (is_from wanted) rows

-- the lesser of two places, or the one that is there
abbrev pub earlier : Option ℕ → Option ℕ → Option ℕ
earlier None other = other
earlier (Some a) None = Some a
earlier (Some a) (Some b) = Some (min a b)
