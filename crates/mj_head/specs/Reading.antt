-- What the steps of the reader say.
use Rattle.std.specs.Prelude.{◌≡◌, ℕ, ◌+◌, ◌-◌, ◌<◌, ◌≤◌, nat_lt, take, drop, slice_index, ◌==◌, ◌&&◌, if◌then◌else◌, Bool, true, false, not, List, [], ◌∷◌, ◌++◌, length, slice_set, slice_index_or, Option, Some, None}
use Rattle.std.specs.List.{list_all, list_any, flat_map}
use Rattle.mj_head.specs.declared.fault.HeadFault.{HeadFault}
use Rattle.mj_head.specs.declared.fault.HeadFault.TheVariants.{ContinuationFirst, NoColon, BadName, TooLong, Memory}
use Rattle.mj_head.specs.declared.cursor.Cursor.{Cursor}
use Rattle.mj_head.specs.Head.{RawField, lines, content, head_lines, body_place, is_continuation, begins_blank, after_colon, name_of, fields_in, written, form_fault, first_fault}
use Rattle.mj_head.specs.Fields.{is_named}

-- the first line of a text, without its end, and the text behind it
pub record IsFirstLine (text line rest : List ℕ) : Type 0 where
  pub whole : List ℕ
  pub split : lines text ≡ whole ∷ lines rest
  pub said : content whole ≡ line
  pub len : length whole + length rest ≡ length text

-- a line that goes on with the field before stands at the front
abbrev pub begins_continued : List (List ℕ) → Bool
begins_continued [] = false
begins_continued (line ∷ rest) = is_continuation (content line)

-- the fault is the one found, or memory ran out
abbrev pub IsFault : HeadFault → Option HeadFault → Type 0
IsFault (ContinuationFirst number) found = found ≡ Some (ContinuationFirst number)
IsFault (NoColon number) found = found ≡ Some (NoColon number)
IsFault (BadName number) found = found ≡ Some (BadName number)
IsFault (TooLong number) found = found ≡ Some (TooLong number)
IsFault Memory found = Unit {0}

-- a line whose form has no fault begins a field of this name, and these bytes follow the colon
pub record BeginsField (number : ℕ) (line name value : List ℕ) : Type 0 where
  pub form : form_fault number line ≡ None
  pub begins : is_continuation line ≡ false
  pub colon : list_any (λ b. b == 58) line ≡ true
  pub name_is : name_of line ≡ name
  pub value_is : after_colon line ≡ value

-- the lines of the head from a cursor on
abbrev pub head_at : Cursor → List (List ℕ)
head_at cursor = head_lines (lines cursor.rest.now)

-- the first fault from a cursor on
abbrev pub fault_from : Cursor → Option HeadFault
fault_from cursor = first_fault 65536 cursor.line cursor.written (head_at cursor)

-- how many bytes an empty line at the front of a text has, or 0 where none stands there
abbrev pub empty_line_len : List ℕ → ℕ
empty_line_len [] = 0
empty_line_len (a ∷ []) = if a == 10 then 1 else 0
empty_line_len (a ∷ b ∷ text) = if a == 10 then 1 else if a == 13 && b == 10 then 2 else 0

-- what a line of the head adds to the written form: one that continues a field adds itself, another its name, a colon and what follows the colon; each has CRLF at its end
abbrev pub line_written : List ℕ → List ℕ
line_written line = (if is_continuation line then line else name_of line ++ 58 ∷ after_colon line) ++ 13 ∷ 10 ∷ []

-- the lines between two cursors have no fault, and what they add to the written form was put at the end of a text
pub record ReadsLines (old new : List ℕ) (from to : Cursor) : Type 0 where
  pub fault : fault_from from ≡ fault_from to
  pub place : body_place (lines from.rest.now) + length to.rest.now ≡ length from.rest.now + body_place (lines to.rest.now)
  pub text : old ++ flat_map line_written (head_at from) ≡ new ++ flat_map line_written (head_at to)
  pub len : to.written + length old ≡ from.written + length new

-- how many bytes the first field of a written form has: up to the first LF that no blank follows, or all without one
abbrev pub field_len : List ℕ → ℕ
field_len [] = 0
field_len (b ∷ text) = if b == 10 && not (begins_blank text) then 1 else field_len text + 1

-- the first field of a text has so many bytes, and it has this name or not
pub record IsFirstField (name text : List ℕ) (named : Bool) (len : ℕ) : Type 0 where
  pub field : RawField
  pub rest : List RawField
  pub fields : fields_in text ≡ field ∷ rest
  pub named_is : named ≡ is_named name field
  pub len_is : len + length (written rest) ≡ length text

-- no field has this name
abbrev pub NoneIsNamed : List ℕ → List RawField → Type 0
NoneIsNamed name fields = list_all (λ field. not (is_named name field)) fields ≡ true

-- the first field of this name stands at this place
pub record IsFirstNamed (name : List ℕ) (fields : List RawField) (place : ℕ) : Type 0 where
  pub within : place < length fields
  pub before : NoneIsNamed name (take place fields)
  pub named : is_named name (slice_index_or fields place ([], [])) ≡ true

-- the fields, of which the one at this place has this raw body now
abbrev pub with_body : List RawField → ℕ → List ℕ → List RawField
with_body fields place body = slice_set fields place ((slice_index_or fields place ([], [])).0, body)

-- in the written form of the fields the raw body of the one at this place stands from one byte to the other
pub record Stands (fields : List RawField) (place from to : ℕ) : Type 0 where
  pub within : to ≤ length (written fields)
  pub len : from + length (slice_index_or fields place ([], [])).1 ≡ to
  pub replaced : (body : List ℕ) → (take from (written fields) ++ body) ++ drop to (written fields) ≡ written (with_body fields place body)

-- the line whose LF stands at this place: without the CRLF at its end, or with the bare LF
abbrev pub line_to : List ℕ → ℕ → List ℕ
line_to body end = if nat_lt 0 end && slice_index body (end - 1) == 13 then take (end - 1) body else take (end + 1) body
