-- What a file of answers says: the walk through its rows to a table, or to its first fault.
use Rattle.std.specs.Prelude.{ℕ, ◌+◌, nat_le, nat_lt, unsigned_abs, not, ◌&&◌, if◌then◌else◌, List, [], ◌∷◌, codes, Option, Some, None, Result, Ok, Err}
use Rattle.std.specs.Int.{is_negative}
use Rattle.std.specs.Str.{is_utf8}
use Rattle.toml.specs.Data.{Data, string, integer, array, table, Items, no_items, item, Members, get_member}
use Rattle.toml.specs.Parse.{parse_document}
use Rattle.mj_terms.specs.Answers as answers
use Rattle.mj_terms.specs.Answers.{◌>>=◌}
use Rattle.mj_terms.specs.Limits.{within}
use Rattle.mj_address.specs.Reading.{address_of, domain_of}
use Rattle.mj_mail.specs.declared.reply.Reply.{Reply}
use Rattle.mj_mail.specs.Reply.{reply_of}
use Rattle.mj_answers.specs.declared.fault.AnswersFault.{AnswersFault}
use Rattle.mj_answers.specs.declared.fault.AnswersFault.TheVariants as fault
use Rattle.mj_answers.specs.declared.fault.AnswersFault.TheVariants.{Refused}
use Rattle.mj_answers.specs.declared.fault.AnswersKind.{AnswersKind}
use Rattle.mj_answers.specs.declared.fault.AnswersKind.TheVariants.{TooLarge, NotToml, TooMany, WrongType, BadHost, BadAddress, BadReply}
use Rattle.mj_answers.specs.declared.fault.Refusal.{Refusal}
use Rattle.mj_answers.specs.declared.fault.Refusal.TheVariants as refusal
use Rattle.mj_answers.specs.declared.row.Row.{Row}

-- ---- Values

-- what was read, or a fault of this kind in place of any other
abbrev pub or_kind : {X E : Type 0} → AnswersKind → Result X E → Result X AnswersKind
or_kind kind (Ok x) = Ok x
or_kind kind (Err other) = Err kind

abbrev pub text : Data → Result (List ℕ) AnswersKind
text (string s) = Ok s
text other = Err WrongType

abbrev pub host_value : Data → Result (List ℕ) AnswersKind
host_value value = do
  s ← text value
  or_kind BadHost (domain_of s)

abbrev pub recipient_value : Data → Result (List ℕ × List ℕ) AnswersKind
recipient_value value = do
  s ← text value
  or_kind BadAddress (address_of s)

-- an integer from 1 to 1,000
abbrev pub attempt_value : Data → Result ℕ AnswersKind
attempt_value (integer z) =
    if not (is_negative z) && (nat_le 1 (unsigned_abs z) && nat_le (unsigned_abs z) 1_000) then Ok (unsigned_abs z) else Err WrongType
attempt_value other = Err WrongType

abbrev pub reply_value : Data → Result Reply AnswersKind
reply_value value = do
  s ← text value
  or_kind BadReply (reply_of s)

-- what a value says, if there is one
abbrev pub maybe : {X : Type 0} → (Data → Result X AnswersKind) → Option Data → Result (Option X) AnswersKind
maybe form None = Ok None
maybe form (Some value) = do
  x ← form value
  Ok (Some x)

-- what a value says that has to be there
abbrev pub needed : {X : Type 0} → (Data → Result X AnswersKind) → Option Data → Result X AnswersKind
needed form None = Err WrongType
needed form (Some value) = form value

-- ---- Rows

-- the keys of a row, in this order
abbrev pub row_of : Members → Result Row AnswersKind
row_of members = do
  host ← maybe host_value (get_member (codes "host") members)
  recipient ← maybe recipient_value (get_member (codes "recipient") members)
  attempt ← maybe attempt_value (get_member (codes "attempt") members)
  reply ← needed reply_value (get_member (codes "reply") members)
  Ok (record { host = host; recipient = recipient; attempt = attempt; reply = reply })

-- a fault with the number of its row, which is 0 where it is in none
abbrev pub located : {X : Type 0} → ℕ → Result X AnswersKind → Result X AnswersFault
located row (Ok x) = Ok x
located row (Err kind) = Err (Refused kind row)

-- the rows in order, where the first has this number
abbrev pub rows_from : ℕ → List Members → Result (List Row) AnswersFault
rows_from number [] = Ok []
rows_from number (row ∷ rows) = do
  first ← located number (row_of row)
  rest ← rows_from (number + 1) rows
  Ok (first ∷ rest)

-- how many items there are
abbrev pub items_len : Items → ℕ
items_len no_items = 0
items_len (item value items) = items_len items + 1

-- an array of tables
abbrev pub tables_in : Items → Result (List Members) AnswersKind
tables_in no_items = Ok []
tables_in (item (table members) items) = do
  rest ← tables_in items
  Ok (members ∷ rest)
tables_in (item other items) = Err WrongType

-- the array `answer`: a missing one has no rows, and it has at most 10,000
abbrev pub tables_of : Option Data → Result (List Members) AnswersKind
tables_of None = Ok []
tables_of (Some (array items)) = if nat_lt 10_000 (items_len items) then Err TooMany else tables_in items
tables_of (Some other) = Err WrongType

-- ---- The whole

abbrev pub table_of : Members → Result (List Row) AnswersFault
table_of document = located 0 (tables_of (get_member (codes "answer") document)) >>= rows_from 1

-- the document that the bytes are
abbrev pub document : List ℕ → Option Members
document bytes = if is_utf8 bytes then parse_document bytes else None

abbrev pub table_of_text : Option Members → Result (List Row) AnswersFault
table_of_text None = Err (Refused NotToml 0)
table_of_text (Some members) = table_of members

-- the rows of a file that may have so many bytes, or its first fault
abbrev pub table_within : ℕ → List ℕ → Result (List Row) AnswersFault
table_within limit bytes = within limit (Err (Refused TooLarge 0)) (λ text. table_of_text (document text)) bytes

-- the same with at most 1,048,576 bytes
unfoldable pub answers_of : List ℕ → Result (List Row) AnswersFault
answers_of bytes = table_within 1_048_576 bytes

-- ---- What a call answers of it

-- a fault but want of memory
abbrev pub told : AnswersFault → Option AnswersFault
told (Refused kind row) = Some (Refused kind row)
told fault.Memory = None

abbrev pub told_kind : Refusal → Option AnswersKind
told_kind (refusal.Kind kind) = Some kind
told_kind refusal.Memory = None

-- A call's answer is what the definition says. Only want of memory comes beside it.
abbrev pub Gives : Result (List Row) AnswersFault → Result (List Row) AnswersFault → Type 0
Gives answer said = answers.GivesBy told (λ x. x) answer said

-- the same for a part of the table, seen so
abbrev pub PartGivesBy : {X Y : Type 0} → (X → Y) → Result X Refusal → Result Y AnswersKind → Type 0
PartGivesBy seen answer said = answers.GivesBy told_kind seen answer said

abbrev pub PartGives : {X : Type 0} → Result X Refusal → Result X AnswersKind → Type 0
PartGives answer said = PartGivesBy (λ x. x) answer said
