-- The answers of an attempt.
use Rattle.std.proofs.Common.{◌≡◌, ℕ, Bool, true, false, List, [], ◌∷◌, length, map, filter, if◌then◌else◌, refl, sym, ap, subst, arith, Option}
use Rattle.std.specs.List.{zip}
use Rattle.mj_address.specs.Masks.{taken}
use Rattle.mj_address.specs.Same.{AreRecipients}
use Rattle.mj_address.proofs.Masks.{recipients_taken}
use Rattle.mj_groups.specs.Groups.{different, having}
use Rattle.mj_mail.specs.declared.reply.Class.{Class}
use Rattle.mj_mail.specs.declared.reply.Reply.{Reply}
use Rattle.mj_mail.specs.Reply.{class_of, same_reply}
use Rattle.mj_container.specs.Matching.{Mailbox}
use Rattle.mj_container.specs.Settling.{Answer, by_reply, is_given_up, recipients_of, those}
use Rattle.mj_remote.specs.Fates.{fated}
use Rattle.mj_remote.specs.Parts.{AreGroups}
use Rattle.mj_remote.specs.declared.fate.Fate.TheVariants.{GivenUp}

-- where either list has come to its end, no answer is left
module _ {X Y : Type 0} where
  pub none_left : (xs : List X) (ys : List Y) → length xs ≡ 0 → zip xs ys ≡ []
  none_left [] ys none = refl
  none_left (x ∷ xs) ys none = absurd (omega arith)

  pub none_right : (xs : List X) (ys : List Y) → length ys ≡ 0 → zip xs ys ≡ []
  none_right [] ys none = refl
  none_right (x ∷ xs) [] none = refl
  none_right (x ∷ xs) (y ∷ ys) none = absurd (omega arith)

-- ---- Recipients

-- the recipients of some answers are one side of all
module _ (test : Class → Bool) where
  chosen_by : (r : Mailbox) (p : Reply) (answers : List Answer) (mask : List Bool) (rs : List Mailbox) (b : Bool)
      → recipients_of (those test answers) ≡ taken mask rs
      → recipients_of (if b then (r, p) ∷ those test answers else those test answers) ≡ taken (b ∷ mask) (r ∷ rs)
  chosen_by r p answers mask rs true later = ap (λ rest. r ∷ rest) later
  chosen_by r p answers mask rs false later = later

  chosen_taken : (rs : List Mailbox) (ps : List Reply) → recipients_of (those test (zip rs ps)) ≡ taken (map (λ p. test (class_of p.code)) ps) rs
  chosen_taken [] [] = refl
  chosen_taken [] (p ∷ ps) = refl
  chosen_taken (r ∷ rs) [] = refl
  chosen_taken (r ∷ rs) (p ∷ ps) = chosen_by r p (zip rs ps) (map (λ p. test (class_of p.code)) ps) rs (test (class_of p.code)) (chosen_taken rs ps)

  -- so they are recipients
  pub chosen_recipients : (rs : List Mailbox) (ps : List Reply) → AreRecipients rs → AreRecipients (recipients_of (those test (zip rs ps)))
  chosen_recipients rs ps all = subst AreRecipients (sym (chosen_taken rs ps)) (recipients_taken (map (λ p. test (class_of p.code)) ps) rs all)

-- ---- Groups

-- each recipient behind its reply
abbrev pairs : List Answer → List (Reply × Mailbox)
pairs answers = map (λ answer. (answer.1, answer.0)) answers

module _ (key : Reply) where
  abbrev mask_of : List Answer → List Bool
  mask_of answers = map (λ answer. same_reply key answer.1) answers

  abbrev alike : List Answer → List (Reply × Mailbox)
  alike answers = filter (λ pair. same_reply key pair.0) (pairs answers)

  at_by : (answer : Answer) (answers : List Answer) (b : Bool) → having same_reply key (pairs answers) ≡ taken (mask_of answers) (recipients_of answers)
      → map (λ (pair : Reply × Mailbox). pair.1) (if b then (answer.1, answer.0) ∷ alike answers else alike answers)
      ≡ taken (b ∷ mask_of answers) (answer.0 ∷ recipients_of answers)
  at_by answer answers true later = ap (λ rest. answer.0 ∷ rest) later
  at_by answer answers false later = later

  having_taken : (answers : List Answer) → having same_reply key (pairs answers) ≡ taken (mask_of answers) (recipients_of answers)
  having_taken [] = refl
  having_taken (answer ∷ answers) = at_by answer answers (same_reply key answer.1) (having_taken answers)

  having_recipients : (answers : List Answer) → AreRecipients (recipients_of answers) → AreRecipients (having same_reply key (pairs answers))
  having_recipients answers all = subst AreRecipients (sym (having_taken answers)) (recipients_taken (mask_of answers) (recipients_of answers) all)

each_group : (keys : List Reply) (answers : List Answer) → AreRecipients (recipients_of answers)
    → AreGroups (map (λ key. (key, having same_reply key (pairs answers))) keys)
each_group [] answers all = tt
each_group (key ∷ keys) answers all = (having_recipients key answers all, each_group keys answers all)

-- the recipients of each reply are recipients
pub group_recipients : (answers : List Answer) → AreRecipients (recipients_of answers)
    → AreGroups (by_reply answers)
group_recipients answers all = each_group (different same_reply (map (λ pair. pair.0) (pairs answers))) answers all

-- and so are those that were given up
pub given_groups : (delay : Option ℕ) (rs : List Mailbox) (ps : List Reply) → AreRecipients rs → AreGroups (by_reply (fated GivenUp delay rs ps))
given_groups delay rs ps all = group_recipients (fated GivenUp delay rs ps) (chosen_recipients (is_given_up delay) rs ps all)
