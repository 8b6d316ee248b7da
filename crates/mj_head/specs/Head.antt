-- Heads of messages (RFC 5322, 2.2): the bytes, the fields, and the place where the body begins.
use Rattle.std.specs.Prelude.{◌≡◌, ℕ, ◌+◌, nat_lt, nat_le, ◌==◌, Bool, true, false, not, ◌&&◌, if◌then◌else◌, List, [], ◌∷◌, ◌++◌, length, Option, Some, None, Result, Ok, Err}
use Rattle.std.specs.List.{list_all, list_any}
use Rattle.mj_terms.specs.Text.{after, trim_back}
use Rattle.mj_terms.specs.Answers.{GivesBy}
-- names of fields, lines that continue a field, and a blank at the front
pub use Rattle.mj_head_lines.specs.Ends.{begins_blank}
pub use Rattle.mj_head_lines.specs.Lines.{before_colon, is_name_byte, is_field_name, is_continuation}
use Rattle.mj_head.specs.declared.fault.HeadFault.{HeadFault}
use Rattle.mj_head.specs.declared.fault.HeadFault.TheVariants.{ContinuationFirst, NoColon, BadName, TooLong, Memory}

-- ---- Lines (2.1)

-- the first line with a byte in front of it
abbrev pub lengthened : ℕ → List (List ℕ) → List (List ℕ)
lengthened b [] = (b ∷ []) ∷ []
lengthened b (line ∷ rest) = (b ∷ line) ∷ rest

-- the lines of a text, each with its end: a line ends at LF, and the last one may end with the text
abbrev pub lines : List ℕ → List (List ℕ)
lines [] = []
lines (b ∷ text) = if b == 10 then (b ∷ []) ∷ lines text else lengthened b (lines text)

-- the end of a line: LF, or CR and LF
abbrev pub is_line_end : List ℕ → Bool
is_line_end [] = false
is_line_end (a ∷ []) = a == 10
is_line_end (a ∷ b ∷ []) = a == 13 && b == 10
is_line_end (a ∷ b ∷ c ∷ more) = false

-- a line without its end
abbrev pub content : List ℕ → List ℕ
content [] = []
content (b ∷ line) = if is_line_end (b ∷ line) then [] else b ∷ content line

-- the contents of the lines of the head: of those before the first empty one
abbrev pub head_lines : List (List ℕ) → List (List ℕ)
head_lines [] = []
head_lines (line ∷ rest) = if length (content line) == 0 then [] else content line ∷ head_lines rest

-- where the body begins: behind the first empty line, or at the end of a text without one
abbrev pub body_place : List (List ℕ) → ℕ
body_place [] = 0
body_place (line ∷ rest) = if length (content line) == 0 then length line else length line + body_place rest

-- ---- Fields (2.2)

-- what stands behind the first colon
abbrev pub after_colon : List ℕ → List ℕ
after_colon line = after 58 line

-- the name is what stands before the first colon, less the blanks right before the colon
abbrev pub name_of : List ℕ → List ℕ
name_of line = trim_back (before_colon line)

-- what the lines that follow a field's first line directly, and continue it, add to its raw body
abbrev pub continued : List (List ℕ) → List ℕ
continued [] = []
continued (line ∷ rest) = if is_continuation line then (13 ∷ 10 ∷ line) ++ continued rest else []

-- a field as its name and its raw body
abbrev pub RawField : Type 0
RawField = List ℕ × List ℕ

-- the fields of a head's lines: each line that continues none begins one
abbrev pub fields_of : List (List ℕ) → List RawField
fields_of [] = []
fields_of (line ∷ rest) = if is_continuation line then fields_of rest else (name_of line, after_colon line ++ continued rest) ∷ fields_of rest

-- the fields of the head at the front of a text
abbrev pub fields_in : List ℕ → List RawField
fields_in text = fields_of (head_lines (lines text))

-- the written form: name, colon, raw body and CRLF of each field
abbrev pub written : List RawField → List ℕ
written [] = []
written (field ∷ rest) = field.0 ++ ((58 ∷ field.1) ++ ((13 ∷ 10 ∷ []) ++ written rest))

-- ---- Faults

-- how many bytes a line of the head adds to the written form
abbrev pub added_by : List ℕ → ℕ
added_by line = if is_continuation line then length line + 2 else length (name_of line) + length (after_colon line) + 3

-- what is wrong with the form of the line of this number
abbrev pub form_fault : ℕ → List ℕ → Option HeadFault
form_fault number line =
    if is_continuation line then (if number == 1 then Some (ContinuationFirst number) else None)
    else if not (list_any (λ b. b == 58) line) then Some (NoColon number)
    else if not (is_field_name (name_of line)) then Some (BadName number)
    else None

abbrev pub or_else : Option HeadFault → Option HeadFault → Option HeadFault
or_else None other = other
or_else (Some fault) other = Some fault

-- what is wrong with the line of this number, where the lines before it are written in so many bytes
abbrev pub line_fault : ℕ → ℕ → ℕ → List ℕ → Option HeadFault
line_fault limit number before line = or_else (form_fault number line) (if nat_lt limit (before + added_by line) then Some (TooLong number) else None)

-- the fault of the first line that has one
abbrev pub first_fault : ℕ → ℕ → ℕ → List (List ℕ) → Option HeadFault
first_fault limit number before [] = None
first_fault limit number before (line ∷ rest) = or_else (line_fault limit number before line) (first_fault limit (number + 1) (before + added_by line) rest)

-- ---- Heads

abbrev pub unless : {X : Type 0} → Option HeadFault → X → Result X HeadFault
unless None x = Ok x
unless (Some fault) x = Err fault

-- the head of a text, whose written form has at most `limit` bytes: its fields and where the body begins, or its first fault
abbrev pub head_within : ℕ → List ℕ → Result (List RawField × ℕ) HeadFault
head_within limit text =
    let head = head_lines (lines text) in
    unless (first_fault limit 1 0 head) (fields_of head, body_place (lines text))

-- the same where the written form has at most 65,536 bytes
abbrev pub head_of : List ℕ → Result (List RawField × ℕ) HeadFault
head_of text = head_within 65536 text

-- a fault but want of memory
abbrev pub told : HeadFault → Option HeadFault
told Memory = None
told fault = Some fault

-- what was returned is what the text has, unless memory ran out
abbrev pub Gives : Result (List RawField × ℕ) HeadFault → Result (List RawField × ℕ) HeadFault → Type 0
Gives answer read = GivesBy told (λ head. head) answer read

-- ---- The form of a head

-- in a raw body each LF stands between a CR and a blank: `before` is the byte before the text
abbrev pub is_folded : ℕ → List ℕ → Bool
is_folded before [] = true
is_folded before (b ∷ text) = (if b == 10 then before == 13 && begins_blank text else true) && is_folded b text

abbrev pub is_raw_body : List ℕ → Bool
is_raw_body body = is_folded 58 body

abbrev pub is_field : RawField → Bool
is_field field = is_field_name field.0 && is_raw_body field.1

-- a head: each field has its form, and the written form has at most 65,536 bytes
abbrev pub is_head : List RawField → Bool
is_head fields = list_all is_field fields && nat_le (length (written fields)) 65536

-- the text is the written form of fields, each of which has its form
pub record IsWritten (text : List ℕ) : Type 0 where
  pub same : written (fields_in text) ≡ text
  pub formed : list_all is_field (fields_in text) ≡ true
