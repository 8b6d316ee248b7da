-- Addresses are short, and so are those that they become.
use Rattle.std.proofs.Common.{◌≡◌, ◌∙◌, ℕ, ◌≤◌, Bool, true, false, List, [], ◌∷◌, ◌++◌, length, map, refl, ap, arith}
use Rattle.std.specs.Prelude.{nat_le, ◌&&◌, if◌then◌else◌}
use Rattle.std.specs.List.{AllByRecursion, list_all}
use Rattle.std.specs.Char.{to_ascii_lowercase}
use Rattle.std.proofs.lemmas.Bool.{and_from, and_parts}
use Rattle.std.proofs.lemmas.Bool.Decides.{nat_tests}
use Rattle.std.proofs.lemmas.List.{length-append, length-map}
use Rattle.mj_address.specs.Grammar.{IsAddress, IsDomain, Mailbox}
use Rattle.mj_address.specs.Reading.{spelled}
use Rattle.mj_address.specs.Same.{distinct, has_same, with_address, with_addresses, with_lower_local}
use Rattle.mj_address.specs.Short.{is_short, is_short_domain}

of_le : (m n : ℕ) → m ≤ n → nat_le m n ≡ true
of_le m n h = grind (arith, nat_tests, h)

le_of : (m n : ℕ) → nat_le m n ≡ true → m ≤ n
le_of m n h = grind (arith, nat_tests, h)

-- ---- What has the form of an address is short

pub short_domain : (domain : List ℕ) → IsDomain domain → is_short_domain domain ≡ true
short_domain domain form = of_le (length domain) 255 form.short

pub short_address : (address : Mailbox) → IsAddress address → is_short address ≡ true
short_address address form =
    and_from (nat_le (length address.0) 64) (is_short_domain address.1) (of_le (length address.0) 64 form.local.short) (short_domain address.1 form.domain)

pub short_addresses : (list : List Mailbox) → AllByRecursion IsAddress list → list_all is_short list ≡ true
short_addresses [] all = refl
short_addresses (address ∷ list) all = and_from (is_short address) (list_all is_short list) (short_address address all.0) (short_addresses list all.1)

-- ---- A short address is spelled in at most 320 bytes

pub spelled_short : (address : Mailbox) → is_short address ≡ true → length (spelled address) ≤ 320
spelled_short address short =
    let parts = and_parts (nat_le (length address.0) 64) (is_short_domain address.1) short in
    let local = le_of (length address.0) 64 parts.0 in
    let domain = le_of (length address.1) 255 parts.1 in
    let e = length-append address.0 (64 ∷ address.1) in
    omega (arith, local, domain, e)

-- ---- Changes of short addresses

pub lower_short : (address : Mailbox) → is_short address ≡ true → is_short (with_lower_local address) ≡ true
lower_short address short = ap (λ n. nat_le n 64 && is_short_domain address.1) (length-map address.0 to_ascii_lowercase) ∙ short

pub mapped_short : (f : Mailbox → Mailbox) → ((address : Mailbox) → is_short address ≡ true → is_short (f address) ≡ true)
    → (list : List Mailbox) → list_all is_short list ≡ true → list_all is_short (map f list) ≡ true
mapped_short f keeps [] all = refl
mapped_short f keeps (address ∷ list) all =
    let parts = and_parts (is_short address) (list_all is_short list) all in
    and_from (is_short (f address)) (list_all is_short (map f list)) (keeps address parts.0) (mapped_short f keeps list parts.1)

pub appended_short : (list more : List Mailbox) → list_all is_short list ≡ true → list_all is_short more ≡ true → list_all is_short (list ++ more) ≡ true
appended_short [] more all others = others
appended_short (address ∷ list) more all others =
    let parts = and_parts (is_short address) (list_all is_short list) all in
    and_from (is_short address) (list_all is_short (list ++ more)) parts.0 (appended_short list more parts.1 others)

added_short_by : (list : List Mailbox) (address : Mailbox) (b : Bool) → list_all is_short list ≡ true → is_short address ≡ true
    → list_all is_short (if b then list else list ++ address ∷ []) ≡ true
added_short_by list address true all short = all
added_short_by list address false all short = appended_short list (address ∷ []) all (and_from (is_short address) true short refl)

pub added_short : (list more : List Mailbox) → list_all is_short list ≡ true → list_all is_short more ≡ true → list_all is_short (with_addresses list more) ≡ true
added_short list [] all others = all
added_short list (address ∷ more) all others =
    let parts = and_parts (is_short address) (list_all is_short more) others in
    added_short (with_address list address) more (added_short_by list address (has_same list address) all parts.0) parts.1

pub distinct_short : (list : List Mailbox) → list_all is_short list ≡ true → list_all is_short (distinct list) ≡ true
distinct_short list all = added_short [] list refl all
