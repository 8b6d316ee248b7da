-- What rules answer for a mail are the replies that a step of it asks for.
use Rattle.std.proofs.Common.{◌≡◌, ℕ, true, List, [], ◌∷◌, length, map, refl, arith}
use Rattle.std.specs.Prelude.{◌==◌}
use Rattle.std.specs.List.{list_all}
use Rattle.std.proofs.lemmas.Bool.Decides.{nat_tests}
use Rattle.std.proofs.lemmas.List.{length-map}
use Rattle.mj_address.specs.Grammar.{Mailbox}
use Rattle.mj_mail.specs.declared.mail.Mail.{Mail}
use Rattle.mj_mail.specs.declared.mail.Stage.{Stage}
use Rattle.mj_mail.specs.declared.mail.Stage.TheVariants.{Process, Remote}
use Rattle.mj_mail.specs.Reply.{is_reply}
use Rattle.mj_mail.specs.Rules.{Replying, replies_at, replies_to}
use Rattle.mj_step.specs.Replied.{are_for, are_for_at}

module _ (reply : Replying) (formed : (host : List ℕ) (r : Mailbox) (number : ℕ) → is_reply (reply host r number) ≡ true) where
  all_formed : (host : List ℕ) (number : ℕ) (recipients : List Mailbox) → list_all is_reply (map (λ r. reply host r number) recipients) ≡ true
  all_formed host number [] = refl
  all_formed host number (r ∷ recipients) = rw (formed host r number, all_formed host number recipients)

  as_many : (host : List ℕ) (number : ℕ) (recipients : List Mailbox) → (length (map (λ r. reply host r number) recipients) == length recipients) ≡ true
  as_many host number recipients = grind (arith, nat_tests, length-map recipients (λ r. reply host r number))

  replied_at : (stage : Stage) (recipients : List Mailbox) → are_for_at stage recipients (replies_at reply recipients stage) ≡ true
  replied_at (Process state) recipients = refl
  replied_at (Remote delivery host number) recipients = rw (as_many host number recipients, all_formed host number recipients)

  pub replied : (mail : Mail) → are_for mail (replies_to reply mail) ≡ true
  replied mail = replied_at mail.stage mail.recipients
