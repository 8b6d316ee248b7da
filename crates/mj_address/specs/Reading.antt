-- What a text says as a domain or as an address, or its first fault.
use Rattle.std.specs.Prelude.{ℕ, List, ◌∷◌, ◌++◌, Bool, ◌==◌, nat_lt, length, Option, Some, None, Result, Ok, Err, if◌then◌else◌}
use Rattle.std.specs.List.{list_any, before_last, after_last}
use Rattle.mj_terms.specs.Answers.{GivesBy}
use Rattle.mj_address.specs.declared.fault.AddressFault.{AddressFault}
use Rattle.mj_address.specs.declared.fault.AddressFault.TheVariants.{NoAt, LocalTooLong, BadLocal, DomainTooLong, BadDomain, Memory}
use Rattle.mj_address.specs.Grammar.{is_dot_atom, is_dotted_labels}

-- the `@`
abbrev pub is_at : ℕ → Bool
is_at b = b == 64

-- An address is its local part and its domain; spelled, the `@` stands between them (RFC 5321, 4.1.2, `Mailbox`).
abbrev pub spelled : List ℕ × List ℕ → List ℕ
spelled address = address.0 ++ 64 ∷ address.1

-- the text as a local part
abbrev pub local_of : List ℕ → Result (List ℕ) AddressFault
local_of text = if nat_lt 64 (length text) then Err LocalTooLong else (if is_dot_atom text then Ok text else Err BadLocal)

-- the text as a domain
abbrev pub domain_of : List ℕ → Result (List ℕ) AddressFault
domain_of text = if nat_lt 255 (length text) then Err DomainTooLong else (if is_dotted_labels text then Ok text else Err BadDomain)

-- both parts, or the local part's fault, or else the domain's
abbrev pub both_parts : Result (List ℕ) AddressFault → Result (List ℕ) AddressFault → Result (List ℕ × List ℕ) AddressFault
both_parts (Err fault) domain = Err fault
both_parts (Ok local) (Err fault) = Err fault
both_parts (Ok local) (Ok domain) = Ok (local, domain)

-- The text as an address: the local part stands before the last `@`, and the domain behind it.
abbrev pub address_of : List ℕ → Result (List ℕ × List ℕ) AddressFault
address_of text =
    if list_any is_at text then both_parts (local_of (before_last is_at text)) (domain_of (after_last is_at text))
    else Err NoAt

-- a fault but want of memory
abbrev pub told : AddressFault → Option AddressFault
told Memory = None
told fault = Some fault

-- A call's answer is what the definition says. Only want of memory comes beside it.
abbrev pub Gives : {X : Type 0} → Result X AddressFault → Result X AddressFault → Type 0
Gives answer definition = GivesBy told (λ x. x) answer definition
