-- Groups of recipients: each has one at least, and its recipients are some of all, in order.
use Rattle.std.proofs.Common.{◌≡◌, ◌∙◌, ℕ, ◌≤◌, Bool, true, false, List, [], ◌∷◌, ◌++◌, length, map, refl, sym, ap, subst, arith}
use Rattle.std.specs.Prelude.{nat_le, if◌then◌else◌, filter}
use Rattle.std.specs.Cmp.{IsEquivalence}
use Rattle.std.specs.List.{AllByRecursion, list_all, list_any}
use Rattle.std.specs.Str.{str_to_ascii_lowercase}
use Rattle.std.proofs.lemmas.Bool.{and_parts}
use Rattle.std.proofs.lemmas.Cmp.{and_equiv, nat_eq_equiv, nat_list_eq_equiv, on_equiv}
use Rattle.mj_address.specs.Masks.{taken}
use Rattle.mj_address.specs.Same.{AreRecipients}
use Rattle.mj_address.specs.Short.{is_short}
use Rattle.mj_address.proofs.Masks.{recipients_filtered, recipients_taken}
use Rattle.mj_groups.specs.Groups.{different, having, with_key, with_keys}
use Rattle.mj_mail.specs.declared.limits.TheConstants.{MAX_RECIPIENTS}
use Rattle.mj_mail.specs.declared.reply.Reply.{Reply}
use Rattle.mj_mail.specs.Reply.{is_reply, same_reply}
use Rattle.mj_mail.specs.Rules.{has_recipients}
use Rattle.mj_terms.specs.Text.{same_text}
use Rattle.mj_container.specs.Matching.{Mailbox}
use Rattle.mj_container.specs.Serving.{by_domain}
use Rattle.mj_container.specs.Settling.{Answer, answers, by_reply, recipients_of}
use Rattle.mj_container.proofs.Changes.{all_filtered, fewer}
use Rattle.mj_container.proofs.Facts.{both_true, of_le}

-- ---- What holds of each item

pub all_append : {X : Type 0} (P : X → Type 0) (xs ys : List X) → AllByRecursion P xs → AllByRecursion P ys → AllByRecursion P (xs ++ ys)
all_append P [] ys a b = b
all_append P (x ∷ xs) ys a b = (a.0, all_append P xs ys a.1 b)

all_both : {X : Type 0} (P Q : X → Type 0) (xs : List X) → AllByRecursion P xs → AllByRecursion Q xs → AllByRecursion (λ x. P x × Q x) xs
all_both P Q [] a b = tt
all_both P Q (x ∷ xs) a b = ((a.0, b.0), all_both P Q xs a.1 b.1)

pub all_weaker : {X : Type 0} (P Q : X → Type 0) → ((x : X) → P x → Q x) → (xs : List X) → AllByRecursion P xs → AllByRecursion Q xs
all_weaker P Q weaker [] all = tt
all_weaker P Q weaker (x ∷ xs) all = (weaker x all.0, all_weaker P Q weaker xs all.1)

pub all_mapped : {X Y : Type 0} (P : X → Type 0) (Q : Y → Type 0) (f : X → Y) → ((x : X) → P x → Q (f x)) → (xs : List X) → AllByRecursion P xs
    → AllByRecursion Q (map f xs)
all_mapped P Q f holds [] all = tt
all_mapped P Q f holds (x ∷ xs) all = (holds x all.0, all_mapped P Q f holds xs all.1)

-- ---- Keys

module _ {K : Type 0} (eq : K → K → Bool) where
  kept_by : (P : K → Type 0) (keys : List K) (key : K) (b : Bool) → AllByRecursion P keys → P key → AllByRecursion P (if b then keys else keys ++ key ∷ [])
  kept_by P keys key true all one = all
  kept_by P keys key false all one = all_append P keys (key ∷ []) all (one, tt)

  -- what holds of each key holds of each different one
  kept_keys : (P : K → Type 0) (keys more : List K) → AllByRecursion P keys → AllByRecursion P more → AllByRecursion P (with_keys eq keys more)
  kept_keys P keys [] all others = all
  kept_keys P keys (key ∷ more) all others = kept_keys P (with_key eq keys key) more (kept_by P keys key (list_any (eq key) keys) all others.0) others.1

  pub all_different : (P : K → Type 0) (keys : List K) → AllByRecursion P keys → AllByRecursion P (different eq keys)
  all_different P keys all = kept_keys P [] keys tt all

  one_stays : (keys : List K) (key : K) (b : Bool) → 1 ≤ length keys → 1 ≤ length (if b then keys else keys ++ key ∷ [])
  one_stays keys key true some = some
  one_stays [] key false some = omega arith
  one_stays (k ∷ keys) key false some = omega arith

  some_stay : (keys more : List K) → 1 ≤ length keys → 1 ≤ length (with_keys eq keys more)
  some_stay keys [] some = some
  some_stay keys (key ∷ more) some = some_stay (with_key eq keys key) more (one_stays keys key (list_any (eq key) keys) some)

  -- of some keys one is different
  pub some_different : (keys : List K) → 1 ≤ length keys → 1 ≤ length (different eq keys)
  some_different [] some = some
  some_different (key ∷ keys) some = some_stay (key ∷ []) keys (omega arith)

-- ---- The items of a key

module _ {K X : Type 0} (eq : K → K → Bool) where
  first_by : (key : K) (pair : K × X) (pairs : List (K × X)) (b : Bool) → b ≡ true
      → 1 ≤ length (map (λ p. p.1) (if b then pair ∷ filter (λ p. eq key p.0) pairs else filter (λ p. eq key p.0) pairs))
  first_by key pair pairs true e = omega arith
  first_by key pair pairs false e = cc

  later_by : (key : K) (pair : K × X) (pairs : List (K × X)) (b : Bool) → 1 ≤ length (having eq key pairs)
      → 1 ≤ length (map (λ p. p.1) (if b then pair ∷ filter (λ p. eq key p.0) pairs else filter (λ p. eq key p.0) pairs))
  later_by key pair pairs true some = omega arith
  later_by key pair pairs false some = some

  -- each key that is mentioned has an item
  mentioned : IsEquivalence eq → (pairs : List (K × X)) → AllByRecursion (λ key. 1 ≤ length (having eq key pairs)) (map (λ pair. pair.0) pairs)
  mentioned laws [] = tt
  mentioned laws (pair ∷ pairs) = (
    first_by pair.0 pair pairs (eq pair.0 pair.0) (laws.refl pair.0),
    all_weaker (λ key. 1 ≤ length (having eq key pairs)) (λ key. 1 ≤ length (having eq key (pair ∷ pairs)))
        (λ key some. later_by key pair pairs (eq key pair.0) some) (map (λ p. p.0) pairs) (mentioned laws pairs),
  )

  -- so each group has an item
  pub groups_some : IsEquivalence eq → (pairs : List (K × X))
      → AllByRecursion (λ key. 1 ≤ length (having eq key pairs)) (different eq (map (λ pair. pair.0) pairs))
  groups_some laws pairs = all_different eq (λ key. 1 ≤ length (having eq key pairs)) (map (λ pair. pair.0) pairs) (mentioned laws pairs)

  having_by : {Y : Type 0} (f : Y → K) (item : Y → X) (key : K) (y : Y) (ys : List Y) (b : Bool)
      → having eq key (map (λ z. (f z, item z)) ys) ≡ map item (filter (λ z. eq key (f z)) ys)
      → map (λ (p : K × X). p.1)
      (if b then (f y, item y) ∷ filter (λ p. eq key p.0) (map (λ z. (f z, item z)) ys) else filter (λ p. eq key p.0) (map (λ z. (f z, item z)) ys))
      ≡ map item (if b then y ∷ filter (λ z. eq key (f z)) ys else filter (λ z. eq key (f z)) ys)
  having_by f item key y ys true later = ap (λ xs. item y ∷ xs) later
  having_by f item key y ys false later = later

  -- the items of a key are those of what has it
  pub having_mapped : {Y : Type 0} (f : Y → K) (item : Y → X) (key : K) (ys : List Y)
      → having eq key (map (λ y. (f y, item y)) ys) ≡ map item (filter (λ y. eq key (f y)) ys)
  having_mapped f item key [] = refl
  having_mapped f item key (y ∷ ys) = having_by f item key y ys (eq key (f y)) (having_mapped f item key ys)

-- ---- Some of at most 500 recipients

-- one to 500 recipients with short addresses
abbrev pub IsGroup : List Mailbox → Type 0
IsGroup rs = (has_recipients rs ≡ true) × (list_all is_short rs ≡ true)

pub some_of : (rs : List Mailbox) (most : ℕ) → 1 ≤ length rs → length rs ≤ most → most ≤ 500 → has_recipients rs ≡ true
some_of rs most some fewer few =
    both_true (nat_le 1 (length rs)) (nat_le (length rs) MAX_RECIPIENTS) (of_le 1 (length rs) some) (of_le (length rs) MAX_RECIPIENTS (omega (arith, fewer, few)))

-- ---- Recipients at a domain

pub same_text_laws : IsEquivalence same_text
same_text_laws = on_equiv str_to_ascii_lowercase nat_list_eq_equiv

unmapped : (rs : List Mailbox) → map (λ r. r) rs ≡ rs
unmapped [] = refl
unmapped (r ∷ rs) = ap (λ more. r ∷ more) (unmapped rs)

-- the recipients at a domain are those that name it
pub domain_group : (domain : List ℕ) (rs : List Mailbox) → having same_text domain (map (λ r. (r.1, r)) rs) ≡ filter (λ r. same_text domain r.1) rs
domain_group domain rs = having_mapped same_text (λ r. r.1) (λ r. r) domain rs ∙ unmapped (filter (λ r. same_text domain r.1) rs)

pub domain_recipients : (recipients : List Mailbox) → AreRecipients recipients → (domain : List ℕ)
    → AreRecipients (having same_text domain (map (λ r. (r.1, r)) recipients))
domain_recipients recipients all domain = subst AreRecipients (sym (domain_group domain recipients)) (recipients_filtered (λ r. same_text domain r.1) recipients all)

pub domain_short : (recipients : List Mailbox) → list_all is_short recipients ≡ true → (domain : List ℕ)
    → list_all is_short (having same_text domain (map (λ r. (r.1, r)) recipients)) ≡ true
domain_short recipients all domain = ap (list_all is_short) (domain_group domain recipients) ∙ all_filtered is_short (λ r. same_text domain r.1) recipients all

pub domain_fewer : (recipients : List Mailbox) (domain : List ℕ) → length (having same_text domain (map (λ r. (r.1, r)) recipients)) ≤ length recipients
domain_fewer recipients domain = subst (λ rs. length rs ≤ length recipients) (sym (domain_group domain recipients)) (fewer (λ r. same_text domain r.1) recipients)

-- so the recipients at each domain are one to 500 again
pub domain_groups : (recipients : List Mailbox) → length recipients ≤ 500 → list_all is_short recipients ≡ true
    → AllByRecursion (λ group. IsGroup group.1) (by_domain recipients)
domain_groups recipients few short =
    let pairs = map (λ r. (r.1, r)) recipients in
    all_mapped (λ domain. 1 ≤ length (having same_text domain pairs)) (λ group. IsGroup group.1) (λ domain. (domain, having same_text domain pairs))
    (λ domain some. (
      some_of (having same_text domain pairs) (length recipients) some (domain_fewer recipients domain) few,
      domain_short recipients short domain,
    ))
    (different same_text (map (λ pair. pair.0) pairs)) (groups_some same_text same_text_laws pairs)

-- ---- Recipients with their replies

pub same_reply_laws : IsEquivalence same_reply
same_reply_laws = and_equiv (on_equiv (λ reply. reply.code) nat_eq_equiv) (on_equiv (λ reply. reply.text) nat_list_eq_equiv)

-- the recipients of as many answers as there are recipients
pub answered : (recipients : List Mailbox) (replies : List Reply) → length replies ≡ length recipients → recipients_of (answers recipients replies) ≡ recipients
answered [] replies e = refl
answered (r ∷ recipients) [] e = absurd (omega (arith, e))
answered (r ∷ recipients) (reply ∷ replies) e = ap (λ more. r ∷ more) (answered recipients replies (omega (arith, e)))

pub answered_recipients : (recipients : List Mailbox) (replies : List Reply) → length replies ≡ length recipients → AreRecipients recipients
    → AreRecipients (recipients_of (answers recipients replies))
answered_recipients recipients replies e all = subst AreRecipients (sym (answered recipients replies e)) all

test_taken_by : (test : Answer → Bool) (answer : Answer) (all : List Answer) (b : Bool)
    → recipients_of (filter test all) ≡ taken (map test all) (recipients_of all)
    → recipients_of (if b then answer ∷ filter test all else filter test all) ≡ taken (b ∷ map test all) (answer.0 ∷ recipients_of all)
test_taken_by test answer all true later = ap (λ more. answer.0 ∷ more) later
test_taken_by test answer all false later = later

-- the recipients of those that pass a test are one side
pub test_taken : (test : Answer → Bool) (all : List Answer) → recipients_of (filter test all) ≡ taken (map test all) (recipients_of all)
test_taken test [] = refl
test_taken test (answer ∷ all) = test_taken_by test answer all (test answer) (test_taken test all)

pub tested_recipients : (test : Answer → Bool) (all : List Answer) → AreRecipients (recipients_of all) → AreRecipients (recipients_of (filter test all))
tested_recipients test all recipients = subst AreRecipients (sym (test_taken test all)) (recipients_taken (map test all) (recipients_of all) recipients)

-- the recipients of a reply are those that were answered so
pub reply_group : (reply : Reply) (all : List Answer)
    → having same_reply reply (map (λ answer. (answer.1, answer.0)) all) ≡ recipients_of (filter (λ answer. same_reply reply answer.1) all)
reply_group reply all = having_mapped same_reply (λ answer. answer.1) (λ answer. answer.0) reply all

pub reply_recipients : (all : List Answer) → AreRecipients (recipients_of all) → (reply : Reply)
    → AreRecipients (having same_reply reply (map (λ answer. (answer.1, answer.0)) all))
reply_recipients all recipients reply = subst AreRecipients (sym (reply_group reply all)) (tested_recipients (λ answer. same_reply reply answer.1) all recipients)

-- ---- Limits of answers

taken_short : (mask : List Bool) (rs : List Mailbox) → list_all is_short rs ≡ true → list_all is_short (taken mask rs) ≡ true
taken_short [] rs all = refl
taken_short (b ∷ mask) [] all = refl
taken_short (true ∷ mask) (r ∷ rs) all =
    let parts = and_parts (is_short r) (list_all is_short rs) all in both_true (is_short r) (list_all is_short (taken mask rs)) parts.0 (taken_short mask rs parts.1)
taken_short (false ∷ mask) (r ∷ rs) all = taken_short mask rs (and_parts (is_short r) (list_all is_short rs) all).1

taken_fewer : {X : Type 0} (mask : List Bool) (xs : List X) → length (taken mask xs) ≤ length xs
taken_fewer [] xs = omega arith
taken_fewer (b ∷ mask) [] = omega arith
taken_fewer (true ∷ mask) (x ∷ xs) = let rest = taken_fewer mask xs in omega (arith, rest)
taken_fewer (false ∷ mask) (x ∷ xs) = let rest = taken_fewer mask xs in omega (arith, rest)

pub tested_short : (test : Answer → Bool) (all : List Answer) → list_all is_short (recipients_of all) ≡ true
    → list_all is_short (recipients_of (filter test all)) ≡ true
tested_short test all short = ap (list_all is_short) (test_taken test all) ∙ taken_short (map test all) (recipients_of all) short

pub tested_fewer : (test : Answer → Bool) (all : List Answer) → length (recipients_of (filter test all)) ≤ length (recipients_of all)
tested_fewer test all = subst (λ rs. length rs ≤ length (recipients_of all)) (sym (test_taken test all)) (taken_fewer (map test all) (recipients_of all))

pub reply_short : (all : List Answer) → list_all is_short (recipients_of all) ≡ true → (reply : Reply)
    → list_all is_short (having same_reply reply (map (λ answer. (answer.1, answer.0)) all)) ≡ true
reply_short all short reply = ap (list_all is_short) (reply_group reply all) ∙ tested_short (λ answer. same_reply reply answer.1) all short

pub reply_fewer : (all : List Answer) (reply : Reply) → length (having same_reply reply (map (λ answer. (answer.1, answer.0)) all)) ≤ length (recipients_of all)
reply_fewer all reply = subst (λ rs. length rs ≤ length (recipients_of all)) (sym (reply_group reply all)) (tested_fewer (λ answer. same_reply reply answer.1) all)

replies_formed : (all : List Answer) → AllByRecursion (λ answer. is_reply answer.1 ≡ true) all
    → AllByRecursion (λ reply. is_reply reply ≡ true) (map (λ (pair : Reply × Mailbox). pair.0) (map (λ answer. (answer.1, answer.0)) all))
replies_formed [] formed = tt
replies_formed (answer ∷ all) formed = (formed.0, replies_formed all formed.1)

-- so the recipients of each reply are one to 500 again
pub reply_groups : (all : List Answer) → length (recipients_of all) ≤ 500 → list_all is_short (recipients_of all) ≡ true
    → AllByRecursion (λ answer. is_reply answer.1 ≡ true) all
    → AllByRecursion (λ group. (is_reply group.0 ≡ true) × IsGroup group.1) (by_reply all)
reply_groups all few short formed =
    let pairs : List (Reply × Mailbox) = map (λ answer. (answer.1, answer.0)) all in
    let keys : List Reply = map (λ pair. pair.0) pairs in
    all_mapped (λ reply. (is_reply reply ≡ true) × (1 ≤ length (having same_reply reply pairs))) (λ group. (is_reply group.0 ≡ true) × IsGroup group.1)
    (λ reply. (reply, having same_reply reply pairs))
    (λ reply h. (
      h.0,
      (some_of (having same_reply reply pairs) (length (recipients_of all)) h.1 (reply_fewer all reply) few, reply_short all short reply),
    ))
    (different same_reply keys)
    (all_both (λ reply. is_reply reply ≡ true) (λ reply. 1 ≤ length (having same_reply reply pairs)) (different same_reply keys)
    (all_different same_reply (λ reply. is_reply reply ≡ true) keys (replies_formed all formed)) (groups_some same_reply same_reply_laws pairs))
