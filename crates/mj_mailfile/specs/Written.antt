-- The written form of a mail file: the lines of the envelope, each with CRLF, and the message.
use Rattle.std.specs.Prelude.{ℕ, List, [], ◌∷◌, ◌++◌, codes, Option, Some, None}
use Rattle.mj_address.specs.Reading.{spelled}
use Rattle.mj_head.specs.Head.{written}
use Rattle.mj_mail.specs.declared.mail.NewMail.{NewMail}
use Rattle.mj_mailfile.specs.MailFile.{Mailbox}

-- a line before what follows it
abbrev pub ended : List ℕ → List ℕ → List ℕ
ended line rest = line ++ 13 ∷ 10 ∷ rest

-- a path in angle brackets
abbrev pub in_brackets : List ℕ → List ℕ
in_brackets path = 60 ∷ (path ++ 62 ∷ [])

-- the sender, or nothing for the null reverse-path
abbrev pub path_text : Option Mailbox → List ℕ
path_text None = []
path_text (Some address) = spelled address

abbrev pub sender_text : Option Mailbox → List ℕ
sender_text sender = codes "MAIL FROM:" ++ in_brackets (path_text sender)

abbrev pub recipient_text : Mailbox → List ℕ
recipient_text address = codes "RCPT TO:" ++ in_brackets (spelled address)

-- the lines of the recipients before what follows them
abbrev pub recipients_before : List Mailbox → List ℕ → List ℕ
recipients_before [] rest = rest
recipients_before (address ∷ more) rest = ended (recipient_text address) (recipients_before more rest)

-- the whole file
abbrev pub written_file : NewMail → List ℕ
written_file mail =
    ended (sender_text mail.sender) (recipients_before mail.recipients (ended (codes "DATA") (ended (written mail.head) mail.body)))
