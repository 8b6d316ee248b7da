-- The conditions that a text is read to have their forms.
use Rattle.std.proofs.Common.{◌≡◌, ℕ, ◌*◌, ◌^◌, ◌<◌, ◌≤◌, Bool, true, false, List, [], ◌∷◌, length, Option, Some, None, Result, refl, sym, subst, eqb, rules, ◌&&◌, arith}
use Rattle.std.specs.Prelude.{if◌then◌else◌, nat_le, nat_lt}
use Rattle.std.proofs.lemmas.Bool.Decides.{nat_tests}
use Rattle.std.proofs.lemmas.Bool.{and_parts}
use Rattle.std.specs.List.{list_all}
use Rattle.std.specs.Char.{is_ascii_digit}
use Rattle.std.specs.Str.Parse.{digits_value}
use Rattle.std.proofs.lemmas.Str.Parse.{IsNumeralModel, numerals_by_value, digits_value_short}
use Rattle.mj_head.specs.Head.{is_field_name}
use Rattle.mj_plan.specs.declared.condition.Condition.{Condition}
use Rattle.mj_plan.specs.declared.condition.Condition.TheVariants.{RecipientIs, HostIs, UserIs, SenderIs, SenderHostIs, SizeGreaterThan, SubjectIs, SubjectStartsWith, HasHeader, HasMailAttribute, HasMailAttributeWithValue, RelayLimit, TooManyRecipients, CompareNumericHeaderValue, RemoteDeliveryFailedWithSMTPCode}
use Rattle.mj_plan.specs.Forms.{is_attribute_name, is_attribute_value, is_reply_code}
use Rattle.mj_plan.specs.Sound.{is_between, has_items, is_condition}
use Rattle.mj_config_walk.specs.declared.fault.PlanKind.{PlanKind}
use Rattle.mj_config_walk.specs.declared.fault.PlanKind.TheVariants.{BadArgument, UnknownMatcher}
use Rattle.mj_config_walk.specs.Values.{some_or, formed, address, domain, is_filled}
use Rattle.mj_terms.specs.Text.{before, behind_byte, trimmed}
use Rattle.mj_config_walk.specs.declared.names.Argued.{Argued}
use Rattle.mj_config_walk.specs.declared.names.Argued.TheVariants as argued
use Rattle.mj_config_walk.specs.declared.names.Name.{Name}
use Rattle.mj_config_walk.specs.declared.names.Name.TheVariants as name
use Rattle.mj_config_walk.specs.declared.names.Plain.{Plain}
use Rattle.mj_config_walk.specs.declared.names.Plain.TheVariants as plain
use Rattle.mj_config_walk.specs.Arguments.{items, words, relation, without_unit, last, digits, count, size, unit, listed, header, attribute_value, comparison, bare, given, whole_text}
use Rattle.mj_config_walk.specs.Conditions.{trimmed_argument, plain_condition, argued_condition, made, named, known, name_in, name_rows, condition_named, condition}
use Rattle.mj_config_sound.proofs.Holds.{Holds, ok, err, bind, skip, checks, some, form_of, each_of, weaken}

-- ---- Numbers

are_digits : IsNumeralModel (λ s. list_all is_ascii_digit s ≡ true) (digits_value 10)
are_digits = numerals_by_value (λ s. list_all is_ascii_digit s ≡ true) (search rules)

digits_by : (most : ℕ) (s : List ℕ) (long form : Bool) → long ≡ nat_le 1 (length s) && nat_le (length s) most → form ≡ list_all is_ascii_digit s
    → (n : ℕ) → (if long && form then Some (digits_value 10 s) else None) ≡ Some n → n < 10 ^ most
digits_by most s true true long form n e =
    let few : length s ≤ most = grind (arith, nat_tests) in
    let is : digits_value 10 s ≡ n = cc in
    subst (λ n. n < 10 ^ most) is (digits_value_short are_digits s most (sym form) few)
digits_by most s true false long form n e = absurd cc
digits_by most s false form long e n f = absurd cc

-- so many digits spell a number below a power of ten
pub digits_small : (most : ℕ) (s : List ℕ) (n : ℕ) → digits most s ≡ Some n → n < 10 ^ most
digits_small most s n e = digits_by most s (nat_le 1 (length s) && nat_le (length s) most) (list_all is_ascii_digit s) refl refl n e

size_small : (n : ℕ) (kilo mega : Bool) → n < 10 ^ 9 → nat_le (n * (if kilo then 1_024 else (if mega then 1_048_576 else 1))) (999_999_999 * 1_048_576) ≡ true
size_small n true mega h = grind (arith, nat_tests)
size_small n false true h = grind (arith, nat_tests)
size_small n false false h = grind (arith, nat_tests)

pub size_of : (s : List ℕ) → Holds (λ n. nat_le n (999_999_999 * 1_048_576) ≡ true) (size s)
size_of s =
    bind (some BadArgument (digits 9 (without_unit s)) (λ n e. digits_small 9 (without_unit s) n e)) (λ n h.
    ok (n * unit (last s)) (size_small n (eqb (last s) 107) (eqb (last s) 109) h))

pub count_of : (s : List ℕ) → Holds (λ n. is_between 1 9_999 n ≡ true) (count s)
count_of s = skip (some_or BadArgument (digits 9 s)) (λ n. checks (is_between 1 9_999 n) BadArgument n (λ h. h))

-- ---- Lists

pub listed_of : {X : Type 0} (p : X → Bool) (form : List ℕ → Result X PlanKind) → ((s : List ℕ) → Holds (λ x. p x ≡ true) (form s))
    → (s : List ℕ) → Holds (λ xs. (has_items 100 xs && list_all p xs) ≡ true) (listed form s)
listed_of p form k s =
    bind (each_of p form k (items s)) (λ xs all.
    checks (has_items 100 xs) BadArgument xs (λ some. rw (some, all)))

anything : {X : Type 0} (form : List ℕ → Result X PlanKind) (s : List ℕ) → Holds (λ x. true ≡ true) (form s)
anything form s = record { of = λ x e. refl }

has_front : (a b : Bool) → (a && b) ≡ true → a ≡ true
has_front a b h = (and_parts a b h).0

pub some_listed : {X : Type 0} (form : List ℕ → Result X PlanKind) (s : List ℕ) → Holds (λ xs. has_items 100 xs ≡ true) (listed form s)
some_listed form s = weaken (λ xs h. has_front (has_items 100 xs) (list_all (λ x. true) xs) h) (listed_of (λ x. true) form (anything form) s)

-- ---- Conditions

abbrev Form : Result Condition PlanKind → Type 0
Form r = Holds (λ c. is_condition c ≡ true) r

bare_of : (c : Condition) → is_condition c ≡ true → (argument : Option (List ℕ)) → Form (bare c argument)
bare_of c h None = ok c h
bare_of c h (Some argument) = err BadArgument

given_of : (argument : Option (List ℕ)) → Holds (λ s. is_filled s ≡ true) (given argument)
given_of None = err BadArgument
given_of (Some argument) = form_of is_filled argument

made_of : {X : Type 0} {P : X → Type 0} (build : X → Condition) (form : List ℕ → Result X PlanKind) (s : List ℕ)
    → Holds P (form s) → ((x : X) → P x → is_condition (build x) ≡ true) → Form (made build form s)
made_of build form s h good = bind h (λ x k. ok (build x) (good x k))

header_of : (s : List ℕ) → Form (header s)
header_of s = bind (form_of is_field_name (before 61 s)) (λ field h. ok (HasHeader field (behind_byte 61 s)) h)

attribute_of : (s : List ℕ) → Form (attribute_value s)
attribute_of s =
    skip (some_or BadArgument (behind_byte 44 s)) (λ value.
    bind (form_of is_attribute_name (trimmed (before 44 s))) (λ name h.
    bind (form_of is_attribute_value (trimmed value)) (λ value k. ok (HasMailAttributeWithValue name value) (rw (h, k)))))

compared : (field : List ℕ) (number : ℕ) → is_field_name field ≡ true → number < 10 ^ 18 → (is_field_name field && nat_lt number (10 ^ 18)) ≡ true
compared field number h small = rw h (grind (arith, nat_tests))

comparison_of : (words : List (List ℕ)) → Form (comparison words)
comparison_of [] = err BadArgument
comparison_of (field ∷ []) = err BadArgument
comparison_of (field ∷ sign ∷ []) = err BadArgument
comparison_of (field ∷ sign ∷ number ∷ []) =
    bind (form_of is_field_name field) (λ field h.
    skip (some_or BadArgument (relation sign)) (λ relation.
    bind (some BadArgument (digits 18 number) (λ n e. digits_small 18 number n e)) (λ number small.
    ok (CompareNumericHeaderValue field relation number) (compared field number h small))))
comparison_of (field ∷ sign ∷ number ∷ more ∷ rest) = err BadArgument

plain_of : (n : Plain) → is_condition (plain_condition n) ≡ true
plain_of plain.All = refl
plain_of plain.RecipientIsLocal = refl
plain_of plain.HostIsLocal = refl
plain_of plain.SenderIsNull = refl
plain_of plain.IsSingleRecipient = refl
plain_of plain.IsRemoteDeliveryPermanentError = refl
plain_of plain.IsRemoteDeliveryTemporaryError = refl
plain_of plain.Fail = refl

argued_of : (n : Argued) (s : List ℕ) → is_filled s ≡ true → Form (argued_condition n s)
argued_of argued.RecipientIs s filled = made_of RecipientIs (listed address) s (some_listed address s) (λ x h. h)
argued_of argued.HostIs s filled = made_of HostIs (listed domain) s (some_listed domain s) (λ x h. h)
argued_of argued.UserIs s filled = made_of UserIs (listed (formed is_filled)) s (listed_of is_filled (formed is_filled) (form_of is_filled) s) (λ x h. h)
argued_of argued.SenderIs s filled = made_of SenderIs (listed address) s (some_listed address s) (λ x h. h)
argued_of argued.SenderHostIs s filled = made_of SenderHostIs (listed domain) s (some_listed domain s) (λ x h. h)
argued_of argued.SizeGreaterThan s filled = made_of SizeGreaterThan size s (size_of s) (λ x h. h)
argued_of argued.SubjectIs s filled = made_of SubjectIs whole_text s (ok s filled) (λ x h. h)
argued_of argued.SubjectStartsWith s filled = made_of SubjectStartsWith whole_text s (ok s filled) (λ x h. h)
argued_of argued.HasHeader s filled = made_of (λ c. c) header s (header_of s) (λ x h. h)
argued_of argued.HasMailAttribute s filled = made_of HasMailAttribute (formed is_attribute_name) s (form_of is_attribute_name s) (λ x h. h)
argued_of argued.HasMailAttributeWithValue s filled = made_of (λ c. c) attribute_value s (attribute_of s) (λ x h. h)
argued_of argued.RelayLimit s filled = made_of RelayLimit count s (count_of s) (λ x h. h)
argued_of argued.TooManyRecipients s filled = made_of TooManyRecipients count s (count_of s) (λ x h. h)
argued_of argued.CompareNumericHeaderValue s filled = made_of (λ c. c) (λ t. comparison (words t)) s (comparison_of (words s)) (λ x h. h)
argued_of argued.RemoteDeliveryFailedWithSMTPCode s filled = made_of RemoteDeliveryFailedWithSMTPCode (formed is_reply_code) s (form_of is_reply_code s) (λ x h. h)

named_of : (n : Name) (argument : Option (List ℕ)) → Form (named n argument)
named_of (name.Plain plain) argument = bare_of (plain_condition plain) (plain_of plain) argument
named_of (name.Argued argued) argument = bind (given_of argument) (λ s filled. argued_of argued s filled)

known_of : (n : Option Name) (argument : Option (List ℕ)) → Form (known argument n)
known_of None argument = err UnknownMatcher
known_of (Some n) argument = named_of n argument

pub condition_named_of : (s : List ℕ) (argument : Option (List ℕ)) → Form (condition_named s argument)
condition_named_of s argument = known_of (name_in name_rows s) argument

pub condition_of : (s : List ℕ) → Form (condition s)
condition_of s = condition_named_of (before 61 s) (trimmed_argument (behind_byte 61 s))
