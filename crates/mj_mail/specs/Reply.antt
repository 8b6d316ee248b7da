-- Replies of hosts: their form, what they say of a recipient, and how they are written (RFC 5321, 4.2).
use Rattle.std.specs.Prelude.{ℕ, ◌+◌, ◌-◌, ◌*◌, nat_lt, nat_le, ◌==◌, ◌&&◌, ◌||◌, Bool, if◌then◌else◌, List, [], ◌∷◌, ◌++◌, length, take, drop, codes, Option, Some, None, Result, Ok, Err}
use Rattle.std.specs.Char.{is_ascii_digit}
use Rattle.std.specs.Fmt.{decimal}
use Rattle.std.specs.List.{list_all}
use Rattle.std.specs.Str.{bytes_eq}
use Rattle.mj_terms.specs.Answers.{GivesBy}
use Rattle.mj_mail.specs.declared.reply.Class.{Class}
use Rattle.mj_mail.specs.declared.reply.Class.TheVariants.{Success, Transient, Permanent}
use Rattle.mj_mail.specs.declared.reply.Reply.{Reply}
use Rattle.mj_mail.specs.declared.reply.ReplyFault.{ReplyFault}
use Rattle.mj_mail.specs.declared.reply.ReplyFault.TheVariants.{BadReply, Memory}

-- ---- Form

-- a code of three digits, of which the first is 2, 4 or 5
abbrev pub is_code : ℕ → Bool
is_code code = (nat_le 200 code && nat_lt code 300) || (nat_le 400 code && nat_lt code 600)

-- a printable byte of ASCII, or a space
abbrev pub is_printable : ℕ → Bool
is_printable b = nat_le 32 b && nat_le b 126

-- at most 512 such bytes
abbrev pub is_reply_text : List ℕ → Bool
is_reply_text text = nat_le (length text) 512 && list_all is_printable text

-- a reply that a host may give
abbrev pub is_reply : Reply → Bool
is_reply reply = is_code reply.code && is_reply_text reply.text

-- ---- Reading

-- the number that a digit spells
abbrev pub value : ℕ → ℕ
value digit = digit - 48

-- the first digit of a code: 2, 4 or 5
abbrev pub is_first : ℕ → Bool
is_first digit = digit == 50 || (digit == 52 || digit == 53)

-- the code that three digits spell
unfoldable pub code_in : List ℕ → Option ℕ
code_in (a ∷ b ∷ c ∷ []) = if is_first a && (is_ascii_digit b && is_ascii_digit c) then Some (value a * 100 + value b * 10 + value c) else None
code_in digits = None

-- what stands behind the code: nothing, or a space and a text
unfoldable pub text_in : List ℕ → Option (List ℕ)
text_in [] = Some []
text_in (b ∷ text) = if b == 32 && is_reply_text text then Some text else None

-- a code, and what stands behind it
abbrev pub reply_with : Option ℕ → Option (List ℕ) → Option Reply
reply_with (Some code) (Some text) = Some (record { code = code; text = text })
reply_with code text = None

-- the reply that a text spells, if it spells one
abbrev pub reply_in : List ℕ → Option Reply
reply_in s = reply_with (code_in (take 3 s)) (text_in (drop 3 s))

-- the same, and else that the text has another form
abbrev pub found : Option Reply → Result Reply ReplyFault
found None = Err BadReply
found (Some reply) = Ok reply

abbrev pub reply_of : List ℕ → Result Reply ReplyFault
reply_of s = found (reply_in s)

-- a fault but want of memory
abbrev pub told : ReplyFault → Option ReplyFault
told Memory = None
told fault = Some fault

-- A call's answer is what the definition says. Only want of memory comes beside it.
abbrev pub Gives : Result Reply ReplyFault → Result Reply ReplyFault → Type 0
Gives answer definition = GivesBy told (λ reply. reply) answer definition

-- ---- Meaning (RFC 5321, 4.2.1)

-- what the first digit of a code says: it was taken, it may be tried again, or it is refused for good
unfoldable pub class_of : ℕ → Class
class_of code = if nat_lt code 400 then Success else (if nat_lt code 500 then Transient else Permanent)

-- ---- Text

-- the zeros in front of a code, which has three digits
abbrev pub code_zeros : ℕ → List ℕ
code_zeros code = if nat_lt code 10 then codes "00" else if nat_lt code 100 then codes "0" else []

-- the three digits of a code
abbrev pub code_text : ℕ → List ℕ
code_text code = code_zeros code ++ decimal code

-- a text behind a space, if there is one
abbrev pub behind_space : List ℕ → List ℕ
behind_space [] = []
behind_space (b ∷ text) = 32 ∷ b ∷ text

-- the code, and a space and the text where there is a text
abbrev pub reply_text : Reply → List ℕ
reply_text reply = code_zeros reply.code ++ decimal reply.code ++ behind_space reply.text

-- ---- Equality

-- the same code and the same text
abbrev pub same_reply : Reply → Reply → Bool
same_reply a b = a.code == b.code && bytes_eq a.text b.text
