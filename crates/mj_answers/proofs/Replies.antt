-- What a table answers is a reply.
use Rattle.std.proofs.Common.{◌≡◌, ℕ, Bool, true, List, Option, Some, None, refl}
use Rattle.std.specs.List.{find, list_all}
use Rattle.std.specs.Option.{option_map_or}
use Rattle.mj_address.specs.Grammar.{Mailbox}
use Rattle.mj_mail.specs.Reply.{is_reply}
use Rattle.mj_answers.specs.declared.row.Row.{Row}
use Rattle.mj_answers.specs.Fitting.{fits, reply_for, taken}
use Rattle.mj_answers.specs.Places.{has_reply}
use Rattle.mj_answers.proofs.FirstPlaces.{row_formed}

reply_by : (test : Row → Bool) (rows : List Row) (found : Option Row) → found ≡ find test rows → list_all has_reply rows ≡ true
    → is_reply (option_map_or (λ row. row.reply) found taken) ≡ true
reply_by test rows None e all = refl
reply_by test rows (Some row) e all = row_formed test rows row e all

pub reply_for_formed : (rows : List Row) → list_all has_reply rows ≡ true → (host : List ℕ) (recipient : Mailbox) (attempt : ℕ)
    → is_reply (reply_for rows host recipient attempt) ≡ true
reply_for_formed rows all host recipient attempt = reply_by (fits host recipient attempt) rows (find (fits host recipient attempt) rows) refl all
