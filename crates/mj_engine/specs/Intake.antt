-- The intake: which files of the folder `mails` are mails, and which are refused and why.
use Rattle.std.specs.Prelude.{ℕ, nat_lt, Bool, if◌then◌else◌, nat_eq, List, ◌++◌, codes, length, filter, Option, Some, None, option_map, Result, Ok, Err}
use Rattle.std.specs.List.{ends_with, filter_map, enumerate_from}
use Rattle.mj_io.specs.Folder.{file_at, names_in}
use Rattle.mj_mail.specs.declared.mail.NewMail.{NewMail}
use Rattle.mj_mailfile.specs.declared.fault.MailFault.{MailFault}
use Rattle.mj_mailfile.specs.MailFile.{mail_file}
use Rattle.mj_report.specs.declared.files.Refusal.{Refusal}
use Rattle.mj_report.specs.declared.files.Refusal.TheVariants.{LongName, Fault}

-- the folder of mails
abbrev pub folder : List ℕ
folder = codes "mails"

-- how many bytes are read of a mail file: one more than it may have
unfoldable pub mail_room : ℕ
mail_room = 16_777_217

-- a name that is taken ends in `.mail`
abbrev pub is_mail_name : List ℕ → Bool
is_mail_name name = ends_with nat_eq name (codes ".mail")

-- the names that are taken, in ascending byte order
abbrev pub taken : List (List ℕ × List ℕ) → List (List ℕ)
taken files = filter is_mail_name (names_in folder files)

-- the path of a name in the folder
abbrev pub path_of : List ℕ → List ℕ
path_of name = codes "mails/" ++ name

-- a mail, or the fault of its file as the refusal
abbrev pub as_refusal : Result NewMail MailFault → Result NewMail Refusal
as_refusal (Ok mail) = Ok mail
as_refusal (Err fault) = Err (Fault fault)

-- what the bytes of a file say, where there is one
abbrev pub mail_in : Option (List ℕ) → Option (Result NewMail Refusal)
mail_in file = option_map (λ bytes. as_refusal (mail_file bytes)) file

-- What is found under a taken name: a mail or a refusal, or nothing where no file stands there. A file whose name has
-- more than 4,096 bytes isn't read.
abbrev pub judged : List (List ℕ × List ℕ) → List ℕ → Option (Result NewMail Refusal)
judged files name =
    if nat_lt 4096 (length name) then Some (Err LongName) else mail_in (file_at (path_of name) files)

-- the mail that was found, and the refusal
abbrev pub found_mail : Option (Result NewMail Refusal) → Option NewMail
found_mail None = None
found_mail (Some (Ok mail)) = Some mail
found_mail (Some (Err refusal)) = None

abbrev pub found_refusal : List ℕ → Option (Result NewMail Refusal) → Option (List ℕ × Refusal)
found_refusal name None = None
found_refusal name (Some (Ok mail)) = None
found_refusal name (Some (Err refusal)) = Some (name, refusal)

-- the mails of these names, and the refused ones with why
abbrev pub mails_of : List (List ℕ × List ℕ) → List (List ℕ) → List NewMail
mails_of files names = filter_map (λ name. found_mail (judged files name)) names

abbrev pub refusals_of : List (List ℕ × List ℕ) → List (List ℕ) → List (List ℕ × Refusal)
refusals_of files names = filter_map (λ name. found_refusal name (judged files name)) names

-- the accepted mails, numbered from 1
abbrev pub fresh : List (List ℕ × List ℕ) → List (ℕ × NewMail)
fresh files = enumerate_from 1 (mails_of files (taken files))

-- the refused files
abbrev pub refused : List (List ℕ × List ℕ) → List (List ℕ × Refusal)
refused files = refusals_of files (taken files)
