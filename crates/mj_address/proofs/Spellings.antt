-- Spelling and reading undo each other.
use Rattle.std.proofs.Common.{◌≡◌, ℕ, Bool, true, false, ◌||◌, ◌&&◌, List, [], ◌∷◌, ◌++◌, Ok, Err, refl, sym, ap, ◌∙◌, arith, if◌then◌else◌}
use Rattle.std.proofs.lemmas.Bool.Decides.{nat_tests}
use Rattle.std.proofs.lemmas.Bool.{and_parts}
use Rattle.std.specs.List.{list_all, list_any, slice_split, onto_first, before_last, after_last}
use Rattle.mj_address.specs.Grammar.{is_dot, is_label, is_label_byte, IsLocal, IsDomain, IsAddress}
use Rattle.mj_address.specs.Reading.{is_at, spelled, local_of, domain_of, both_parts, address_of}
use Rattle.mj_address.specs.declared.fault.AddressFault.TheVariants.{NoAt}
use Rattle.mj_address.proofs.Cuts.{whole_by_parts, before_between, after_between}

-- what each passes, each passes of a weaker test
pub all_weaker : (strict weak : List ℕ → Bool) → ((x : List ℕ) → strict x ≡ true → weak x ≡ true) → (xs : List (List ℕ)) → list_all strict xs ≡ true → list_all weak xs ≡ true
all_weaker strict weak h [] all = refl
all_weaker strict weak h (x ∷ xs) all = grind (arith, h x, all_weaker strict weak h xs)

onto_parts : (test : ℕ → Bool) (b : ℕ) (parts : List (List ℕ)) → list_all (list_all test) (onto_first b parts) ≡ true → (test b ≡ true) × (list_all (list_all test) parts ≡ true)
onto_parts test b [] all = grind arith
onto_parts test b (part ∷ parts) all = grind arith

-- each byte of the text is of a piece, or was cut at
pub bytes_of_pieces : (test cuts : ℕ → Bool) (text : List ℕ) → list_all (list_all test) (slice_split cuts text) ≡ true → list_all (λ b. test b || cuts b) text ≡ true
bytes_of_pieces test cuts [] all = refl
bytes_of_pieces test cuts (b ∷ text) all = by (cuts b) refl (bytes_of_pieces test cuts text)
  where
    by : (here : Bool) → cuts b ≡ here → (list_all (list_all test) (slice_split cuts text) ≡ true → list_all (λ b. test b || cuts b) text ≡ true) → (test b || cuts b) && list_all (λ b. test b || cuts b) text ≡ true
    by true e later =
        let rest : list_all (list_all test) (slice_split cuts text) ≡ true = rw e at all in
        grind (arith, later rest)
    by false e later =
        let parts = onto_parts test b (slice_split cuts text) (rw e at all) in
        grind (arith, later parts.1)

pub label_bytes : (piece : List ℕ) → is_label piece ≡ true → list_all is_label_byte piece ≡ true
label_bytes piece h = grind arith

byte_apart : (b : ℕ) → is_label_byte b || is_dot b ≡ true → is_at b ≡ false
byte_apart b h = grind (arith, nat_tests)

at_in_none : (text : List ℕ) → list_all (λ b. is_label_byte b || is_dot b) text ≡ true → list_any is_at text ≡ false
at_in_none [] all = refl
at_in_none (b ∷ text) all =
    let both = and_parts (is_label_byte b || is_dot b) (list_all (λ b. is_label_byte b || is_dot b) text) all in
    rw (byte_apart b both.0) (at_in_none text both.1)

-- a domain has no `@`
pub no_at : (domain : List ℕ) → IsDomain domain → list_any is_at domain ≡ false
no_at domain d = at_in_none domain (bytes_of_pieces is_label_byte is_dot domain (all_weaker is_label (list_all is_label_byte) label_bytes (slice_split is_dot domain) d.form))

parts_same : (local domain : List ℕ) (address : List ℕ × List ℕ) → both_parts (local_of local) (domain_of domain) ≡ Ok address → address ≡ (local, domain)
parts_same local domain address h = grind arith

-- an address is read by its two parts
by_parts : (text local domain : List ℕ) → list_any is_at text ≡ true → before_last is_at text ≡ local → after_last is_at text ≡ domain → address_of text ≡ both_parts (local_of local) (domain_of domain)
by_parts text local domain found before after = λ i. if found i then both_parts (local_of (before i)) (domain_of (after i)) else Err NoAt

without : (text : List ℕ) → list_any is_at text ≡ false → address_of text ≡ Err NoAt
without text none = λ i. if none i then both_parts (local_of (before_last is_at text)) (domain_of (after_last is_at text)) else Err NoAt

-- what is read is spelled so
pub sound : (text : List ℕ) (address : List ℕ × List ℕ) → address_of text ≡ Ok address → text ≡ spelled address
sound text address h = by (list_any is_at text) refl
  where
    by : (found : Bool) → list_any is_at text ≡ found → text ≡ spelled address
    by true e =
        let same = parts_same (before_last is_at text) (after_last is_at text) address (sym (by_parts text _ _ e refl refl) ∙ h) in
        whole_by_parts text e ∙ ap spelled (sym same)
    by false e =
        let refused : Err NoAt ≡ Ok address = sym (without text e) ∙ h in
        cc

parts_read : (local domain : List ℕ) → IsLocal local → IsDomain domain → both_parts (local_of local) (domain_of domain) ≡ Ok (local, domain)
parts_read local domain l d = grind (arith, l.form, d.form)

found_at : (local domain : List ℕ) → list_any is_at (local ++ 64 ∷ domain) ≡ true
found_at [] domain = refl
found_at (b ∷ local) domain = grind (arith, found_at local domain)

-- what is spelled so is read
complete : (local domain : List ℕ) → IsLocal local → IsDomain domain → address_of (spelled (local, domain)) ≡ Ok (local, domain)
complete local domain l d =
    let none = no_at domain d in
    by_parts (spelled (local, domain)) local domain (found_at local domain) (before_between local domain none) (after_between local domain none)
    ∙ parts_read local domain l d

-- so an address is read again
pub read_again : (address : List ℕ × List ℕ) → IsAddress address → address_of (spelled address) ≡ Ok address
read_again address form = complete address.0 address.1 form.local form.domain
