-- When two addresses are the same, and lists of different ones.
use Rattle.std.specs.Prelude.{List, [], ◌∷◌, ◌++◌, Bool, ◌&&◌, if◌then◌else◌}
use Rattle.std.specs.List.{list_any, AllByRecursion, IsDistinct}
use Rattle.std.specs.Str.{str_to_ascii_lowercase}
use Rattle.mj_address.specs.Grammar.{IsAddress, Mailbox}
use Rattle.mj_terms.specs.Text.{same_text}

-- The same local part at the same domain, both without regard to ASCII case.
abbrev pub same_address : Mailbox → Mailbox → Bool
same_address a b = same_text a.0 b.0 && same_text a.1 b.1

-- The list has an address that is the same.
abbrev pub has_same : List Mailbox → Mailbox → Bool
has_same list address = list_any (same_address address) list

-- No two of the list are the same.
abbrev pub AreDifferent : List Mailbox → Type 0
AreDifferent list = IsDistinct same_address list

-- A list of recipients: addresses, no two the same.
pub record AreRecipients (list : List Mailbox) : Type 0 where
  pub addresses : AllByRecursion IsAddress list
  pub different : AreDifferent list

-- With this address at the end, unless one that is the same stands there.
abbrev pub with_address : List Mailbox → Mailbox → List Mailbox
with_address list address = if has_same list address then list else list ++ address ∷ []

-- With each of these in turn.
abbrev pub with_addresses : List Mailbox → List Mailbox → List Mailbox
with_addresses list [] = list
with_addresses list (address ∷ more) = with_addresses (with_address list address) more

-- Of addresses that are the same the first.
abbrev pub distinct : List Mailbox → List Mailbox
distinct addresses = with_addresses [] addresses

-- The address with its local part in lower case, which is the same address.
abbrev pub with_lower_local : Mailbox → Mailbox
with_lower_local address = (str_to_ascii_lowercase address.0, address.1)
