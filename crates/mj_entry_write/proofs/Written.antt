-- Items of lists that were written: how many they are, and the form of each.
use Rattle.std.proofs.Common.{◌≡◌, ℕ, zero, suc, ◌+◌, ◌<◌, ◌≤◌, true, List, [], ◌∷◌, ◌++◌, length, take, get_or, sym, ◌∙◌, ap, subst, arith, length-append, append_assoc}
use Rattle.std.specs.Prelude.{Result, Ok, Err, OnOk}
use Rattle.std.specs.List.{AllByRecursion, flat_map, list_all}
use Rattle.std.proofs.lemmas.Bool.{and_parts}
use Rattle.std.proofs.lemmas.List.{flat_map_more, take_more}
use Rattle.std.proofs.lemmas.List.Folds.{length-flat_map-take}
use Rattle.mj_fields.specs.Fields.{with_length}
use Rattle.mj_fields.specs.declared.memory.Memory.{Memory}
use Rattle.mj_entry_rows.specs.Forms.{IsCounted, IsReply}
use Rattle.mj_mail.specs.declared.fact.Fact.{Fact}
use Rattle.mj_mail.specs.declared.fact.Fact.TheVariants.{Deposit, Sent, Retry, Bounce, Dropped, FellOff, Looped, Overrun}
use Rattle.mj_mail.specs.declared.limits.TheConstants.{MAX_PAYLOAD}
use Rattle.mj_mail.specs.declared.mail.Mail.{Mail}
use Rattle.mj_mail.specs.declared.reply.Reply.{Reply}
use Rattle.mj_mail.specs.Entry.{address_form, fact_form, mail_form, pair_form, reply_form}
use Rattle.mj_mail.specs.Reply.{is_reply}

-- ---- The item at a place, of which a list is gone over

module _ {X : Type 0} (form : X → List ℕ) (items : List X) (at : ℕ) (item : X)
    (within : at < length items) (is : item ≡ get_or items at item) where
  -- its form is no longer than the list's
  pub item_small : length (form item) ≤ length (flat_map form items)
  item_small = omega (arith, length-flat_map-take form items at item within, ap (λ x. length (form x)) is)

  -- the forms so far, and its form
  pub item_written : (before so_far next : List ℕ) → so_far ≡ before ++ flat_map form (take at items) → next ≡ so_far ++ form item
      → next ≡ before ++ flat_map form (take (at + 1) items)
  item_written before so_far next put step =
      step ∙ ap (λ l. l ++ form item) put ∙ flat_map_more form before (take at items) item
      ∙ ap (λ l. before ++ flat_map form l) (sym (take_more items at item within ∙ ap (λ x. take at items ++ x ∷ []) (sym is)))

-- what holds of those so far, and of it
each_next : {X : Type 0} (P : X → Type 0) (items : List X) (at : ℕ) (item : X) → at < length items → item ≡ get_or items at item
    → AllByRecursion P (take at items) → P item → AllByRecursion P (take (suc at) items)
each_next P [] at item within is each here = absurd (omega arith)
each_next P (first ∷ items) zero item within is each here = (subst P is here, tt)
each_next P (first ∷ items) (suc at) item within is each here = (each.0, each_next P items at item (omega arith) is each.1 here)

pub item_each : {X : Type 0} (P : X → Type 0) (items : List X) (at : ℕ) (item : X) → at < length items → item ≡ get_or items at item
    → AllByRecursion P (take at items) → P item → AllByRecursion P (take (at + 1) items)
item_each P items at item within is each here =
    let on : suc at ≡ at + 1 = omega arith in
    subst (λ n. AllByRecursion P (take n items)) on (each_next P items at item within is each here)

-- ---- Two items, one behind the other

module _ (before so_far next first second : List ℕ) (one : so_far ≡ before ++ first) where
  pub both : next ≡ so_far ++ second → next ≡ before ++ (first ++ second)
  both other = other ∙ ap (λ l. l ++ second) one ∙ append_assoc before first second

  -- the same where the second one is put last
  pub both_written : (result : Result Unit Memory) → OnOk result (next ≡ so_far ++ second) → OnOk result (next ≡ before ++ (first ++ second))
  both_written (Ok done) other = both other
  both_written (Err fault) other = other

-- ---- A list has no more items than its form has bytes

few : {X : Type 0} (form : X → List ℕ) → ((x : X) → 1 ≤ length (form x)) → (xs : List X) → length xs ≤ length (flat_map form xs)
few form some [] = omega arith
few form some (x ∷ xs) = omega (arith, some x, few form some xs, length-append (form x) (flat_map form xs))

pub addresses_few : (addresses : List (List ℕ × List ℕ)) → length addresses ≤ length (flat_map address_form addresses)
addresses_few addresses = few address_form (λ address. omega arith) addresses

pub replies_few : (replies : List Reply) → length replies ≤ length (flat_map reply_form replies)
replies_few replies = few reply_form (λ reply. omega arith) replies

fact_some : (fact : Fact) → 1 ≤ length (fact_form fact)
fact_some (Deposit repository sender recipients head body) = omega arith
fact_some (Sent host recipient reply) = omega arith
fact_some (Retry host recipients attempt due) = omega arith
fact_some (Bounce recipients) = omega arith
fact_some (Dropped why recipients) = omega arith
fact_some (FellOff processor recipients) = omega arith
fact_some (Looped recipients) = omega arith
fact_some Overrun = omega arith

pub facts_few : (facts : List Fact) → length facts ≤ length (flat_map fact_form facts)
facts_few facts = few fact_form fact_some facts

pub mails_few : (mails : List Mail) → length mails ≤ length (flat_map mail_form mails)
mails_few mails = few mail_form (λ mail. omega arith) mails

-- ---- The form of each item

-- strings of a small form can be counted
pub strings_counted : (pairs : List (List ℕ × List ℕ)) → length (flat_map pair_form pairs) ≤ MAX_PAYLOAD
    → AllByRecursion (λ (pair : List ℕ × List ℕ). IsCounted pair.0 × IsCounted pair.1) pairs
strings_counted [] small = tt
strings_counted (pair ∷ pairs) small =
    let all = length-append (pair_form pair) (flat_map pair_form pairs) in
    let both = length-append pair.0 (with_length pair.1) in
    ((omega (arith, all, both), omega (arith, all, both)), strings_counted pairs (omega (arith, all)))

pub replies_each : (replies : List Reply) → list_all is_reply replies ≡ true → AllByRecursion IsReply replies
replies_each [] each = tt
replies_each (reply ∷ replies) each =
    let parts = and_parts (is_reply reply) (list_all is_reply replies) each in
    (parts.0, replies_each replies parts.1)
