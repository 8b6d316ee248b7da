-- The lines of facts, without their LF where the name doesn't say line.
use Rattle.std.specs.Prelude.{ℕ, List, [], ◌∷◌, ◌++◌, codes}
use Rattle.std.specs.Fmt.{decimal}
use Rattle.mj_address.specs.Reading.{spelled}
use Rattle.mj_mail.specs.declared.fact.Fact.{Fact}
use Rattle.mj_mail.specs.declared.fact.Fact.TheVariants.{Deposit, Sent, Retry, Bounce, Dropped, FellOff, Looped, Overrun}
use Rattle.mj_mail.specs.declared.fact.Why.{Why}
use Rattle.mj_mail.specs.declared.fact.Why.TheVariants.{Discarded, NoReturnPath}
use Rattle.mj_mail.specs.declared.reply.Reply.{Reply}
use Rattle.mj_mail.specs.Line.{recipients_text}
use Rattle.mj_mail.specs.Mail.{size}
use Rattle.mj_mail.specs.Meaning.{Placed}
use Rattle.mj_mail.specs.Name.{text_of}
use Rattle.mj_mail.specs.Reply.{reply_text}

-- what is said of a fact
abbrev pub deposit_text : List ℕ → List (List ℕ × List ℕ) → ℕ → List ℕ
deposit_text repository recipients size = codes "deposit " ++ repository ++ (32 ∷ recipients_text recipients) ++ 32 ∷ decimal size

abbrev pub sent_text : List ℕ → List ℕ × List ℕ → Reply → List ℕ
sent_text host recipient reply = codes "sent " ++ host ++ (32 ∷ spelled recipient) ++ 32 ∷ reply_text reply

abbrev pub retry_text : List ℕ → List (List ℕ × List ℕ) → ℕ → ℕ → List ℕ
retry_text host recipients attempt due = codes "retry " ++ host ++ (32 ∷ recipients_text recipients) ++ (32 ∷ decimal attempt) ++ 32 ∷ decimal due

abbrev pub why_text : Why → List ℕ
why_text Discarded = codes "dropped discarded "
why_text NoReturnPath = codes "dropped noreturnpath "

abbrev pub felloff_text : List ℕ → List (List ℕ × List ℕ) → List ℕ
felloff_text processor recipients = codes "felloff " ++ processor ++ 32 ∷ recipients_text recipients

abbrev pub fact_text : Fact → List ℕ
fact_text (Deposit repository sender recipients head body) = deposit_text repository recipients (size head body)
fact_text (Sent host recipient reply) = sent_text host recipient reply
fact_text (Retry host recipients attempt due) = retry_text host recipients attempt due
fact_text (Bounce recipients) = codes "bounce " ++ recipients_text recipients
fact_text (Dropped why recipients) = why_text why ++ recipients_text recipients
fact_text (FellOff processor recipients) = felloff_text processor recipients
fact_text (Looped recipients) = codes "looped " ++ recipients_text recipients
fact_text Overrun = codes "overrun"

-- the line of a fact of a mail: the mail's name, `#`, the fact's number, and what is said of it
abbrev pub line_of : List ℕ → ℕ → Fact → List ℕ
line_of name number fact = name ++ (35 ∷ decimal number) ++ (32 ∷ fact_text fact) ++ 10 ∷ []

abbrev pub fact_line : Placed → List ℕ
fact_line fact = line_of (text_of fact.name) fact.number fact.fact
