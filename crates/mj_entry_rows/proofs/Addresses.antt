-- Domains, addresses, senders and recipients.
use Rattle.std.proofs.Common.{◌≡◌, ℕ, ◌≤◌, ◌==◌, nat_lt, Bool, true, false, ◌||◌, List, [], ◌∷◌, ◌++◌, length, Result, Ok, Err, if◌then◌else◌, refl, sym, ap, ◌∙◌, subst, arith, append_assoc, append-nil}
use Rattle.std.specs.List.{AllByRecursion, IsDistinct}
use Rattle.std.proofs.lemmas.Bool.{ltb-false, le-ltb, ne_eqb, not-true, not_from_false, or_parts}
use Rattle.mj_fields.specs.Fields.{with_length}
use Rattle.mj_address.specs.Grammar.{IsAddress, IsDomain, IsLocal, Mailbox, is_dot_atom, is_dotted_labels}
use Rattle.mj_address.specs.Reading.{both_parts, domain_of, local_of}
use Rattle.mj_address.specs.Same.{AreDifferent, has_same, same_address}
use Rattle.mj_address.specs.declared.fault.AddressFault.{AddressFault}
use Rattle.mj_address.specs.declared.fault.AddressFault.TheVariants.{BadDomain, BadLocal, DomainTooLong, LocalTooLong}
use Rattle.mj_address.proofs.Different.{same_laws}
use Rattle.mj_mail.specs.Entry.{address_form, recipients_form, sender_form}
use Rattle.mj_entry_rows.specs.Forms.{AreAddressed, IsSender}
use Rattle.mj_entry_rows.specs.Items.{address_in, domain_in, is_new_recipient, is_ok, is_some_list, recipients_in, sender_in}
use Rattle.mj_entry_rows.specs.Readings.{IsRow}
use Rattle.mj_entry_rows.proofs.KindRows.{option_row}
use Rattle.mj_entry_rows.proofs.Lists.{AreFitting, all_of_fitting, fitting_row}
use Rattle.mj_entry_rows.proofs.Numbers.{pair_row, string_row}
use Rattle.mj_entry_rows.proofs.Rows.{passing_row}

-- ---- Domains and addresses

formed : (long form : Bool) (text : List ℕ) (too_long bad : AddressFault)
    → is_ok (if long then Err too_long else (if form then Ok text else Err bad)) ≡ true
    → (long ≡ false) × (form ≡ true)
formed true form text too_long bad h = absurd (cc)
formed false true text too_long bad h = (refl, refl)
formed false false text too_long bad h = absurd (cc)

pub domain_formed : (text : List ℕ) → is_ok (domain_of text) ≡ true → IsDomain text
domain_formed text h =
    let parts = formed (nat_lt 255 (length text)) (is_dotted_labels text) text DomainTooLong BadDomain h in
    record { short = ltb-false 255 (length text) parts.0; form = parts.1 }

local_formed : (text : List ℕ) → is_ok (local_of text) ≡ true → IsLocal text
local_formed text h =
    let parts = formed (nat_lt 64 (length text)) (is_dot_atom text) text LocalTooLong BadLocal h in
    record { short = ltb-false 64 (length text) parts.0; form = parts.1 }

domain_read : (text : List ℕ) → IsDomain text → domain_of text ≡ Ok text
domain_read text is =
    ap (λ (b : Bool). if b then Err DomainTooLong else (if is_dotted_labels text then Ok text else Err BadDomain)) (le-ltb 255 (length text) is.short)
    ∙ ap (λ (b : Bool). if b then Ok text else Err BadDomain) is.form

local_read : (text : List ℕ) → IsLocal text → local_of text ≡ Ok text
local_read text is =
    ap (λ (b : Bool). if b then Err LocalTooLong else (if is_dot_atom text then Ok text else Err BadLocal)) (le-ltb 64 (length text) is.short)
    ∙ ap (λ (b : Bool). if b then Ok text else Err BadLocal) is.form

both_ok : (local domain : Result (List ℕ) AddressFault) → is_ok (both_parts local domain) ≡ true → (is_ok local ≡ true) × (is_ok domain ≡ true)
both_ok (Err fault) domain h = absurd (cc)
both_ok (Ok local) (Err fault) h = absurd (cc)
both_ok (Ok local) (Ok domain) h = (refl, refl)

address_formed : (address : Mailbox) → is_ok (both_parts (local_of address.0) (domain_of address.1)) ≡ true → IsAddress address
address_formed address h =
    let parts = both_ok (local_of address.0) (domain_of address.1) h in
    record { local = local_formed address.0 parts.0; domain = domain_formed address.1 parts.1 }

address_read : (address : Mailbox) → IsAddress address → is_ok (both_parts (local_of address.0) (domain_of address.1)) ≡ true
address_read address is = λ i. is_ok (both_parts (local_read address.0 is.local i) (domain_read address.1 is.domain i))

pub domain_row : IsRow IsDomain with_length domain_in
domain_row =
    passing_row string_row (λ domain. is_ok (domain_of domain)) IsDomain
    (λ domain counted h. domain_formed domain h)
    (λ domain is. (omega (arith, is.short), ap is_ok (domain_read domain is)))

pub address_row : IsRow IsAddress address_form address_in
address_row =
    passing_row pair_row (λ address. is_ok (both_parts (local_of address.0) (domain_of address.1))) IsAddress
    (λ address counted h. address_formed address h)
    (λ address is. ((omega (arith, is.local.short), omega (arith, is.domain.short)), address_read address is))

pub sender_row : IsRow IsSender sender_form sender_in
sender_row = option_row address_row IsSender tt (λ address is. is) (λ address is. is)

-- ---- Recipients

all_pushed : (P : Mailbox → Type 0) (list : List Mailbox) (address : Mailbox) → AllByRecursion P list → P address
    → AllByRecursion P (list ++ address ∷ [])
all_pushed P [] address all one = (one, tt)
all_pushed P (other ∷ list) address all one = (all.0, all_pushed P list address all.1 one)

all_reached : (P : Mailbox → Type 0) (before : List Mailbox) (address : Mailbox) (rest : List Mailbox) → AllByRecursion P (before ++ address ∷ rest)
    → P address
all_reached P [] address rest all = all.0
all_reached P (other ∷ before) address rest all = all_reached P before address rest all.1

different_pushed : (list : List Mailbox) (address : Mailbox) → AreDifferent list → has_same list address ≡ false → AreDifferent (list ++ address ∷ [])
unfolding IsDistinct
different_pushed [] address different new = (tt, tt)
different_pushed (other ∷ list) address different new =
    let parts = or_parts (same_address address other) (has_same list address) new in (
      all_pushed (λ y. same_address other y ≡ false) list address different.0 (same_laws.symm other address ∙ parts.0),
      different_pushed list address different.1 parts.1,
    )

new_between : (before : List Mailbox) (address : Mailbox) (rest : List Mailbox) → AreDifferent (before ++ address ∷ rest)
    → has_same before address ≡ false
unfolding IsDistinct
new_between [] address rest different = refl
new_between (other ∷ before) address rest different =
    let apart : same_address address other ≡ false =
    same_laws.symm address other ∙ all_reached (λ y. same_address other y ≡ false) before address rest different.0 in
    ap (λ b. b || has_same before address) apart ∙ new_between before address rest different.1

fitting_different : (so_far list : List Mailbox) → AreDifferent so_far → AreFitting IsAddress is_new_recipient so_far list
    → AreDifferent (so_far ++ list)
fitting_different so_far [] different fit = subst AreDifferent (sym (append-nil so_far)) different
fitting_different so_far (address ∷ list) different fit =
    subst AreDifferent (append_assoc so_far (address ∷ []) list)
    (fitting_different (so_far ++ address ∷ []) list (different_pushed so_far address different (not-true (has_same so_far address) fit.1.0)) fit.1.1)

different_fitting : (so_far list : List Mailbox) → AllByRecursion IsAddress list → AreDifferent (so_far ++ list)
    → AreFitting IsAddress is_new_recipient so_far list
different_fitting so_far [] all different = tt
different_fitting so_far (address ∷ list) all different = (
  all.0,
  (
    not_from_false (has_same so_far address) (new_between so_far address list different),
    different_fitting (so_far ++ address ∷ []) list all.1 (subst AreDifferent (sym (append_assoc so_far (address ∷ []) list)) different),
  ),
)

no_different : AreDifferent []
unfolding IsDistinct
no_different = tt

some_items : (list : List Mailbox) → is_some_list list ≡ true → 1 ≤ length list
some_items [] h = absurd (cc)
some_items (address ∷ list) h = omega arith

some_list : (list : List Mailbox) → 1 ≤ length list → is_some_list list ≡ true
some_list [] h = absurd (omega arith)
some_list (address ∷ list) h = not_from_false (length (address ∷ list) == 0) (ne_eqb (length (address ∷ list)) 0 (λ same. omega arith))

pub recipients_row : IsRow AreAddressed recipients_form recipients_in
recipients_row =
    passing_row (fitting_row address_row is_new_recipient) is_some_list AreAddressed
    (λ list fit some. record {
      some = some_items list some;
      counted = fit.0;
      different = record {
        addresses = all_of_fitting IsAddress is_new_recipient [] list fit.1;
        different = fitting_different [] list no_different fit.1;
      };
    })
    (λ list are. ((are.counted, different_fitting [] list are.different.addresses are.different.different), some_list list are.some))
