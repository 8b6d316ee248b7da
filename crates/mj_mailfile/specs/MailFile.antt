-- What a mail file says: an envelope in the words of SMTP (RFC 5321, 4.1.1), and a message.
use Rattle.std.specs.Prelude.{◌≡◌, ℕ, ◌+◌, ◌-◌, ◌==◌, nat_eq, if◌then◌else◌, List, [], ◌∷◌, ◌++◌, length, take, drop, codes, Option, Some, None, option_map, Result, Ok, Err, ok_or, refl}
use Rattle.std.specs.List.{ends_with, concat}
use Rattle.std.specs.Option.{option_and_then, option_map_or}
use Rattle.std.specs.Result.{result_ok}
use Rattle.std.proofs.Common.{Bor}
use Rattle.mj_terms.specs.Answers.{◌>>=◌, GivesBy}
use Rattle.mj_terms.specs.Limits.{within, within-take}
use Rattle.mj_terms.specs.Text.{behind, same_text, trim_back, trimmed}
use Rattle.mj_address.specs.Reading.{address_of}
use Rattle.mj_address.specs.Same.{has_same}
use Rattle.mj_head.specs.Head.{RawField, lines, content, head_of}
use Rattle.mj_head.specs.declared.fault.HeadFault.{HeadFault}
use Rattle.mj_head.specs.declared.fault.HeadFault.TheVariants as head
use Rattle.mj_mail.specs.declared.limits.TheConstants.{MAX_BODY, MAX_RECIPIENTS}
use Rattle.mj_mail.specs.declared.mail.NewMail.{NewMail}
use Rattle.mj_mailfile.specs.declared.fault.MailFault.{MailFault}
use Rattle.mj_mailfile.specs.declared.fault.MailFault.TheVariants.{TooLarge, NoMailFrom, BadSender, BadRecipient, TooManyRecipients, NoRecipient, NoData, BadHead, HeadTooLong, Memory}

-- ---- Answers

-- a fault but want of memory
abbrev pub told : MailFault → Option MailFault
told Memory = None
told fault = Some fault

-- What was returned is what the file says, unless memory ran out.
abbrev pub Gives : {X : Type 0} → Result X MailFault → Result X MailFault → Type 0
Gives answer said = GivesBy told (λ x. x) answer said

-- a fault that isn't want of memory is the file's
pub gives_fault : {X : Type 0} (fault : MailFault) (said : Result X MailFault) → Gives (Err fault) said → (fault ≡ Memory → ⊥) → said ≡ Err fault
gives_fault TooLarge said g h = g
gives_fault NoMailFrom said g h = g
gives_fault BadSender said g h = g
gives_fault (BadRecipient line) said g h = g
gives_fault TooManyRecipients said g h = g
gives_fault NoRecipient said g h = g
gives_fault NoData said g h = g
gives_fault (BadHead line) said g h = g
gives_fault HeadTooLong said g h = g
gives_fault Memory said g h = absurd (h refl)

-- ---- Lines of the envelope

abbrev pub Mailbox : Type 0
Mailbox = List ℕ × List ℕ

-- what stands behind a word at the front of a line, which is read without regard to case
abbrev pub behind_word : List ℕ → List ℕ → Option (List ℕ)
behind_word word line = if same_text (take (length word) line) word then Some (drop (length word) line) else None

-- what stands before `>` at the end
abbrev pub before_bracket : List ℕ → Option (List ℕ)
before_bracket text = if ends_with nat_eq text (62 ∷ []) then Some (take (length text - 1) text) else None

-- what stands in angle brackets, with nothing but blanks round them
abbrev pub bracketed : List ℕ → Option (List ℕ)
bracketed text = option_and_then before_bracket (behind (60 ∷ []) (trimmed text))

-- the address in brackets
abbrev pub mailbox : List ℕ → Option Mailbox
mailbox text = option_and_then (λ spelling. result_ok (address_of spelling)) (bracketed text)

-- the path in brackets: nothing is the null reverse-path (RFC 5321, 4.5.5), else it is an address
abbrev pub path_of : List ℕ → Option (Option Mailbox)
path_of [] = Some None
path_of (b ∷ spelling) = option_map (λ address. Some address) (result_ok (address_of (b ∷ spelling)))

abbrev pub reverse_path : List ℕ → Option (Option Mailbox)
reverse_path text = option_and_then path_of (bracketed text)

-- the sender of the first line
abbrev pub sender_behind : Option (List ℕ) → Result (Option Mailbox) MailFault
sender_behind None = Err NoMailFrom
sender_behind (Some text) = ok_or (reverse_path text) BadSender

abbrev pub sender_of : List ℕ → Result (Option Mailbox) MailFault
sender_of line = sender_behind (behind_word (codes "MAIL FROM:") line)

-- the recipients with that of the line of this number: of equal ones the first is kept, and there is no 501st
abbrev pub with_recipient : ℕ → List Mailbox → Option Mailbox → Result (List Mailbox) MailFault
with_recipient number found None = Err (BadRecipient number)
with_recipient number found (Some address) =
    if has_same found address then Ok found else (if length found == MAX_RECIPIENTS then Err TooManyRecipients else Ok (found ++ address ∷ []))

-- the recipients of the `RCPT TO:` lines at the front, beside those before them, and the lines behind; the first line
-- has this number
abbrev pub recipients_of : ℕ → List Mailbox → List (List ℕ) → Result (List Mailbox × List (List ℕ)) MailFault
recipients_of number found [] = Ok (found, [])
recipients_of number found (line ∷ rest) =
    option_map_or (λ text. with_recipient number found (mailbox text) >>= λ all. recipients_of (number + 1) all rest)
    (behind_word (codes "RCPT TO:") (content line)) (Ok (found, line ∷ rest))

-- the message behind the `DATA` line, which follows the recipients
abbrev pub message_behind : List Mailbox → List (List ℕ) → Result (List ℕ) MailFault
message_behind [] rest = Err NoRecipient
message_behind (address ∷ found) [] = Err NoData
message_behind (address ∷ found) (line ∷ rest) = if same_text (trim_back (content line)) (codes "DATA") then Ok (concat rest) else Err NoData

-- ---- Mails

-- a fault of the head
abbrev pub head_fault : HeadFault → MailFault
head_fault (head.ContinuationFirst line) = BadHead line
head_fault (head.NoColon line) = BadHead line
head_fault (head.BadName line) = BadHead line
head_fault (head.TooLong line) = HeadTooLong
head_fault head.Memory = Memory

-- the mail of an envelope and a message
abbrev pub mail_with : Option Mailbox → List Mailbox → List ℕ → Result (List RawField × ℕ) HeadFault → Result NewMail MailFault
mail_with sender recipients message (Ok head) = Ok (record { sender = sender; recipients = recipients; head = head.0; body = drop head.1 message })
mail_with sender recipients message (Err fault) = Err (head_fault fault)

-- the mail of the lines of a file
abbrev pub mail_of_lines : List (List ℕ) → Result NewMail MailFault
mail_of_lines [] = Err NoMailFrom
mail_of_lines (line ∷ rest) =
    sender_of (content line) >>= λ sender. recipients_of 2 [] rest
    >>= λ found. message_behind found.0 found.1 >>= λ message. mail_with sender found.0 message (head_of message)

-- the mail of bytes that are few enough, or their first fault
unfoldable pub mail_of : List ℕ → Result NewMail MailFault
mail_of bytes = mail_of_lines (lines bytes)

-- the mail of a file, or its first fault
unfoldable pub mail_file : List ℕ → Result NewMail MailFault
mail_file bytes = within MAX_BODY (Err TooLarge) mail_of bytes

-- so it is enough to read one byte more than a mail file may have
pub mail_file-take : (room : ℕ) (bytes : List ℕ) → room ≡ 16_777_217 → mail_file (take room bytes) ≡ mail_file bytes
unfolding mail_file
mail_file-take room bytes e = within-take MAX_BODY room (Err TooLarge) mail_of bytes e

-- ---- Steps of the reader

-- no recipient's line stands at the front: the recipients before are all
abbrev pub IsEnd : List ℕ → Type 0
IsEnd bytes = (number : ℕ) (found : List Mailbox) → recipients_of number found (lines bytes) ≡ Ok (found, lines bytes)

-- a recipient's line stands at the front, with this text behind `RCPT TO:`, and these bytes behind the line
abbrev pub IsRecipientLine : List ℕ → List ℕ → List ℕ → Type 0
IsRecipientLine bytes text rest = (number : ℕ) (found : List Mailbox)
    → recipients_of number found (lines bytes) ≡ with_recipient number found (mailbox text) >>= λ all. recipients_of (number + 1) all (lines rest)

-- the recipients that were read, and the bytes behind their lines
abbrev pub GivesFound : Result (List Mailbox × Bor (List ℕ)) MailFault → Result (List Mailbox × List (List ℕ)) MailFault → Type 0
GivesFound answer said = GivesBy told (λ found. (found.0, lines found.1.now)) answer said

-- the message that was read
abbrev pub GivesBytes : Result (Bor (List ℕ)) MailFault → Result (List ℕ) MailFault → Type 0
GivesBytes answer said = GivesBy told (λ message. message.now) answer said
