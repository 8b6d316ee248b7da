-- An entry of the form that is read is one that can be written.
use Rattle.std.proofs.Common.{◌≡◌, ◌≤◌, Bool, true, List, [], ◌∷◌, length, refl, arith}
use Rattle.std.specs.List.{AllByRecursion, list_all}
use Rattle.std.proofs.lemmas.Bool.{and_from}
use Rattle.std.proofs.lemmas.Bool.Decides.{nat_tests}
use Rattle.mj_address.specs.Grammar.{Mailbox}
use Rattle.mj_entry_rows.specs.Forms.{AreAddressed, IsEntry, IsFact, IsMail, IsReply}
use Rattle.mj_mail.specs.declared.entry.Entry.{Entry}
use Rattle.mj_mail.specs.declared.entry.Entry.TheVariants.{Setup, Accept, Done}
use Rattle.mj_mail.specs.declared.fact.Fact.{Fact}
use Rattle.mj_mail.specs.declared.fact.Fact.TheVariants.{Deposit, Sent, Retry, Bounce, Dropped, FellOff, Looped, Overrun}
use Rattle.mj_mail.specs.declared.mail.Mail.{Mail}
use Rattle.mj_mail.specs.Reply.{is_reply}
use Rattle.mj_entry_write.specs.Whole.{is_addressed, is_whole, is_whole_fact}

addressed_by : (recipients : List Mailbox) → 1 ≤ length recipients → is_addressed recipients ≡ true
addressed_by [] some = absurd (omega arith)
addressed_by (recipient ∷ recipients) some = grind (arith, nat_tests)

addressed : (recipients : List Mailbox) → AreAddressed recipients → is_addressed recipients ≡ true
addressed recipients are = addressed_by recipients are.some

all_pass : {X : Type 0} (P : X → Type 0) (p : X → Bool) → ((x : X) → P x → p x ≡ true) → (xs : List X)
    → AllByRecursion P xs → list_all p xs ≡ true
all_pass P p one [] each = refl
all_pass P p one (x ∷ xs) each = and_from (p x) (list_all p xs) (one x each.0) (all_pass P p one xs each.1)

fact_whole : (fact : Fact) → IsFact fact → is_whole_fact fact ≡ true
fact_whole (Deposit repository sender recipients head body) is = addressed recipients is.1.1.0
fact_whole (Sent host recipient reply) is = is.1.1
fact_whole (Retry host recipients attempt due) is = addressed recipients is.1.0
fact_whole (Bounce recipients) is = addressed recipients is
fact_whole (Dropped why recipients) is = addressed recipients is
fact_whole (FellOff processor recipients) is = addressed recipients is.1
fact_whole (Looped recipients) is = addressed recipients is
fact_whole Overrun is = refl

pub whole : (entry : Entry) → IsEntry entry → is_whole entry ≡ true
whole (Setup plan) is = refl
whole (Accept number file new) is = addressed new.recipients is.mail.recipients
whole (Done name replies outcome) is =
    let answered = all_pass IsReply is_reply (λ reply known. known) replies is.answered.each in
    let facts = all_pass IsFact is_whole_fact fact_whole outcome.facts is.facts.each in
    let children = all_pass IsMail (λ (child : Mail). is_addressed child.recipients) (λ child known. addressed child.recipients known.recipients)
    outcome.children is.children.each in
    and_from _ _ answered (and_from _ _ facts children)
