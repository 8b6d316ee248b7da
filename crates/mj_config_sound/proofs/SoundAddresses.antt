-- The addresses and domains that are read are short.
use Rattle.std.proofs.Common.{◌≡◌, ℕ, Bool, true, false, List, length, Result, Ok, Err, refl, arith}
use Rattle.std.specs.Prelude.{nat_le, nat_lt, if◌then◌else◌}
use Rattle.std.specs.List.{after_last, before_last, list_any}
use Rattle.std.proofs.lemmas.Bool.{and_from}
use Rattle.std.proofs.lemmas.Bool.Decides.{nat_tests}
use Rattle.toml.specs.Data.{Data}
use Rattle.mj_address.specs.declared.fault.AddressFault.{AddressFault}
use Rattle.mj_address.specs.declared.fault.AddressFault.TheVariants.{NoAt, LocalTooLong, BadLocal, DomainTooLong, BadDomain}
use Rattle.mj_address.specs.Grammar.{is_dot_atom, is_dotted_labels}
use Rattle.mj_address.specs.Reading.{both_parts, domain_of, is_at, local_of}
use Rattle.mj_address.specs.Short.{is_short, is_short_domain}
use Rattle.mj_config_walk.specs.declared.fault.PlanKind.TheVariants.{BadAddress}
use Rattle.mj_config_walk.specs.Values.{address, domain, domain_value, in_address, text}
use Rattle.mj_config_walk.specs.Walk.{address_value}
use Rattle.mj_config_sound.proofs.Holds.{Holds, choose, err, ok, skip}

pub not_long : (most n : ℕ) → nat_lt most n ≡ false → nat_le n most ≡ true
not_long most n h = grind (arith, nat_tests, h)

local_by : (s : List ℕ) (long formed : Bool) → nat_lt 64 (length s) ≡ long
    → Holds {E = AddressFault} (λ x. nat_le (length x) 64 ≡ true) (if long then Err LocalTooLong else (if formed then Ok s else Err BadLocal))
local_by s true formed e = err LocalTooLong
local_by s false false e = err BadLocal
local_by s false true e = ok s (not_long 64 (length s) e)

domain_by : (s : List ℕ) (long formed : Bool) → nat_lt 255 (length s) ≡ long
    → Holds {E = AddressFault} (λ x. is_short_domain x ≡ true) (if long then Err DomainTooLong else (if formed then Ok s else Err BadDomain))
domain_by s true formed e = err DomainTooLong
domain_by s false false e = err BadDomain
domain_by s false true e = ok s (not_long 255 (length s) e)

local_short : (s : List ℕ) → Holds (λ x. nat_le (length x) 64 ≡ true) (local_of s)
local_short s = local_by s (nat_lt 64 (length s)) (is_dot_atom s) refl

short_domain : (s : List ℕ) → Holds (λ x. is_short_domain x ≡ true) (domain_of s)
short_domain s = domain_by s (nat_lt 255 (length s)) (is_dotted_labels s) refl

parts_short : (local domain : Result (List ℕ) AddressFault) → Holds (λ x. nat_le (length x) 64 ≡ true) local → Holds (λ x. is_short_domain x ≡ true) domain
    → Holds (λ a. is_short a ≡ true) (both_parts local domain)
parts_short (Err fault) domain h k = err fault
parts_short (Ok a) (Err fault) h k = err fault
parts_short (Ok a) (Ok b) h k = ok (a, b) (and_from (nat_le (length a) 64) (is_short_domain b) (h.of a refl) (k.of b refl))

in_address_of : {X : Type 0} {Q : X → Type 0} (r : Result X AddressFault) → Holds Q r → Holds Q (in_address r)
in_address_of (Ok x) h = ok x (h.of x refl)
in_address_of (Err fault) h = err BadAddress

pub domain_is_short : (s : List ℕ) → Holds (λ x. is_short_domain x ≡ true) (domain s)
domain_is_short s = in_address_of (domain_of s) (short_domain s)

pub address_is_short : (s : List ℕ) → Holds (λ a. is_short a ≡ true) (address s)
address_is_short s =
    let local = local_of (before_last is_at s) in
    let domain = domain_of (after_last is_at s) in
    in_address_of (if list_any is_at s then both_parts local domain else Err NoAt)
    (choose (list_any is_at s) (parts_short local domain (local_short (before_last is_at s)) (short_domain (after_last is_at s))) (err NoAt))

pub domain_value_is_short : (value : Data) → Holds (λ x. is_short_domain x ≡ true) (domain_value value)
domain_value_is_short value = skip (text value) domain_is_short

pub address_value_is_short : (value : Data) → Holds (λ a. is_short a ≡ true) (address_value value)
address_value_is_short value = skip (text value) address_is_short
