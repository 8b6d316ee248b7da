-- What a host answers by a table: the reply of the first row that fits.
use Rattle.std.specs.Prelude.{ℕ, ◌==◌, ◌&&◌, Bool, true, List, codes}
use Rattle.std.specs.List.{find}
use Rattle.std.specs.Option.{option_map_or}
use Rattle.mj_terms.specs.Text.{same_text}
use Rattle.mj_address.specs.Grammar.{Mailbox}
use Rattle.mj_address.specs.Same.{same_address}
use Rattle.mj_mail.specs.declared.reply.Reply.{Reply}
use Rattle.mj_answers.specs.declared.row.Row.{Row}

-- a row fits where each key that it has is the same as what is asked for
abbrev pub fits : List ℕ → Mailbox → ℕ → Row → Bool
fits host recipient attempt row =
    option_map_or (same_text host) row.host true
    && (option_map_or (same_address recipient) row.recipient true && option_map_or (λ number. attempt == number) row.attempt true)

-- where no row fits the host takes the mail
abbrev pub taken : Reply
taken = record { code = 250; text = codes "OK" }

abbrev pub reply_for : List Row → List ℕ → Mailbox → ℕ → Reply
reply_for rows host recipient attempt = option_map_or (λ row. row.reply) (find (fits host recipient attempt) rows) taken
