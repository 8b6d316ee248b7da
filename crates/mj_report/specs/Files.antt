-- The lines of refused files, without their LF where the name doesn't say line.
use Rattle.std.specs.Prelude.{ℕ, ◌+◌, ◌/◌, ◌%◌, nat_le, nat_lt, ◌==◌, Bool, ◌&&◌, not, if◌then◌else◌, List, [], ◌∷◌, ◌++◌, codes}
use Rattle.std.specs.Fmt.{decimal}
use Rattle.std.specs.List.{flat_map}
use Rattle.mj_mailfile.specs.declared.fault.MailFault.{MailFault}
use Rattle.mj_mailfile.specs.declared.fault.MailFault.TheVariants.{TooLarge, NoMailFrom, BadSender, BadRecipient, TooManyRecipients, NoRecipient, NoData, BadHead, HeadTooLong, Memory}
use Rattle.mj_report.specs.declared.files.Refusal.{Refusal}
use Rattle.mj_report.specs.declared.files.Refusal.TheVariants.{LongName, Fault}

-- a hexadecimal digit in upper case
abbrev pub hex_digit : ℕ → ℕ
hex_digit n = if nat_lt n 10 then n + 48 else n + 55

-- a byte that stands as it is in a file's name: from 33 to 126, but not `%`
abbrev pub is_plain_byte : ℕ → Bool
is_plain_byte b = (nat_le 33 b && nat_le b 126) && not (b == 37)

-- a byte of a file's name: as it is where it is plain, and else as `%` and two digits
abbrev pub name_byte : ℕ → List ℕ
name_byte b = if is_plain_byte b then b ∷ [] else 37 ∷ hex_digit (b / 16) ∷ hex_digit (b % 16) ∷ []

abbrev pub file_text : List ℕ → List ℕ
file_text name = flat_map name_byte name

-- the name of what is wrong with a mail file, with the number of the line where one is named
abbrev pub fault_text : MailFault → List ℕ
fault_text TooLarge = codes "TooLarge"
fault_text NoMailFrom = codes "NoMailFrom"
fault_text BadSender = codes "BadSender"
fault_text (BadRecipient line) = codes "BadRecipient " ++ decimal line
fault_text TooManyRecipients = codes "TooManyRecipients"
fault_text NoRecipient = codes "NoRecipient"
fault_text NoData = codes "NoData"
fault_text (BadHead line) = codes "BadHead " ++ decimal line
fault_text HeadTooLong = codes "HeadTooLong"
fault_text Memory = codes "Memory"

abbrev pub refusal_text : Refusal → List ℕ
refusal_text LongName = codes "LongName"
refusal_text (Fault fault) = fault_text fault

-- the line of a refused file
abbrev pub refused_line : List ℕ × Refusal → List ℕ
refused_line refused = codes "refused " ++ file_text refused.0 ++ (32 ∷ refusal_text refused.1) ++ 10 ∷ []
