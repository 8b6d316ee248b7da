-- The mapping of an address: the first one that fits it.
use Rattle.std.specs.Prelude.{Bool, List, Option}
use Rattle.std.specs.List.{find}
use Rattle.mj_terms.specs.Text.{same_text}
use Rattle.mj_address.specs.Grammar.{Mailbox}
use Rattle.mj_address.specs.Same.{same_address}
use Rattle.mj_plan.specs.declared.plan.Mapping.{Mapping}
use Rattle.mj_plan.specs.declared.plan.Mapping.TheVariants.{Addresses, Error, Host}

-- a mapping from this address, or from its domain
abbrev pub fits : Mailbox → Mapping → Bool
fits address (Addresses from to) = same_address address from
fits address (Error from text) = same_address address from
fits address (Host from to) = same_text address.1 from

abbrev pub mapping_of : Mailbox → List Mapping → Option Mapping
mapping_of address mappings = find (fits address) mappings
