-- A notice keeps the limits of a mail.
use Rattle.std.proofs.Common.{◌≡◌, ℕ, suc, ◌+◌, ◌*◌, ◌≤◌, true, List, [], ◌∷◌, ◌++◌, length, refl, ap, arith, length-append}
use Rattle.std.specs.Prelude.{codes}
use Rattle.std.specs.List.{AllByRecursion, flat_map, list_all}
use Rattle.std.proofs.lemmas.Bool.{and_parts}
use Rattle.mj_address.specs.Grammar.{Mailbox}
use Rattle.mj_address.specs.Reading.{spelled}
use Rattle.mj_address.specs.Short.{is_short, is_short_domain}
use Rattle.mj_address.proofs.Short.{spelled_short}
use Rattle.mj_head.specs.Head.{written}
use Rattle.mj_mail.specs.declared.failure.Failure.{Failure}
use Rattle.mj_mail.specs.declared.limits.TheConstants.{MAX_BODY, MAX_HEAD}
use Rattle.mj_mail.specs.declared.mail.Mail.{Mail}
use Rattle.mj_plan.specs.declared.plan.Plan.{Plan}
use Rattle.mj_time.specs.DateText.{date_text_of}
use Rattle.mj_container.specs.Changes.{field_of}
use Rattle.mj_container.specs.Notices.{closing, failure_line, failures, line, notice, notice_head, opening, troubled, undelivered}
use Rattle.mj_container.specs.Sound.{keeps_limits}
use Rattle.mj_container.proofs.Changes.{written_len}
use Rattle.mj_container.proofs.DateTexts.{date_short}
use Rattle.mj_container.proofs.Facts.{both_true, le_of, limits_kept, of_le}

line_len : (text : List ℕ) → length (line text) ≡ length text + 2
line_len text = let e = length-append text (13 ∷ 10 ∷ []) in omega (arith, e)

-- ---- The head

head_from : (from to subject date : List ℕ) → length from ≤ 320 → length to ≤ 320 → length subject ≤ 100 → length date ≤ 31
    → length (written (field_of (codes "From") from ∷ field_of (codes "To") to ∷ field_of (codes "Subject") subject ∷ field_of (codes "Date") date ∷ field_of (codes "Auto-Submitted") (codes "auto-replied") ∷ [])) ≤ 65_536
head_from from to subject date a b c d =
    let last = field_of (codes "Auto-Submitted") (codes "auto-replied") in
    let e4 = written_len (field_of (codes "Date") date) (last ∷ []) in
    let e3 = written_len (field_of (codes "Subject") subject) (field_of (codes "Date") date ∷ last ∷ []) in
    let e2 = written_len (field_of (codes "To") to) (field_of (codes "Subject") subject ∷ field_of (codes "Date") date ∷ last ∷ []) in
    let e1 = written_len (field_of (codes "From") from) (field_of (codes "To") to ∷ field_of (codes "Subject") subject ∷ field_of (codes "Date") date ∷ last ∷ []) in
    omega (arith, a, b, c, d, e1, e2, e3, e4)

head_short : (plan : Plan) (to : Mailbox) (subject : List ℕ) (moment : ℕ) → is_short plan.postmaster ≡ true → is_short to ≡ true → length subject ≤ 100
    → length (written (notice_head plan to subject moment)) ≤ 65_536
head_short plan to subject moment from there short =
    head_from (spelled plan.postmaster) (spelled to) subject (date_text_of moment) (spelled_short plan.postmaster from) (spelled_short to there) short (date_short moment)

-- ---- The body

opening_short : (plan : Plan) → is_short_domain plan.host_name ≡ true → length (opening plan) ≤ 300
opening_short plan short =
    let host = le_of (length plan.host_name) 255 short in
    let text = codes "This is the mail system at " ++ plan.host_name ++ codes "." in
    let e1 = length-append (codes "This is the mail system at ") plan.host_name in
    let e2 = length-append (codes "This is the mail system at " ++ plan.host_name) (codes ".") in
    let e3 = length-append (line text) (line []) in
    omega (arith, host, e1, e2, e3, line_len text)

closing_short : (mail : Mail) → length (written mail.head) ≤ 65_536 → length (closing mail) ≤ 65_600
closing_short mail short =
    let front = line (codes "The head of your message follows.") in
    let e1 = length-append front (line []) in
    let e2 = length-append (front ++ line []) (written mail.head) in
    omega (arith, short, e1, e2)

-- a failure with a short address, and a reason of at most 516 bytes: a code, a space and a text
abbrev pub IsTold : Failure → Type 0
IsTold failure = (is_short failure.recipient ≡ true) × (length failure.reason ≤ 516)

-- an address and a reason in a line
failure_short : (failure : Failure) → IsTold failure → length (failure_line failure) ≤ 900
failure_short failure told =
    let address = spelled_short failure.recipient told.0 in
    let front = 60 ∷ spelled failure.recipient in
    let e1 = length-append front (codes ">: ") in
    let e2 = length-append (front ++ codes ">: ") failure.reason in
    omega (arith, told.1, address, e1, e2, line_len (front ++ codes ">: " ++ failure.reason))

failures_short : (failed : List Failure) → AllByRecursion IsTold failed → length (flat_map failure_line failed) ≤ length failed * 900
failures_short [] told = omega arith
failures_short (failure ∷ failed) told =
    let one = failure_short failure told.0 in
    let rest = failures_short failed told.1 in
    let e = length-append (failure_line failure) (flat_map failure_line failed) in
    omega (arith, one, rest, e)

undelivered_from : (front words lines back : List ℕ) → length front ≤ 300 → length words ≤ 100 → length lines ≤ 450_000 → length back ≤ 65_600
    → length (front ++ words ++ line [] ++ lines ++ line [] ++ back) ≤ 16_777_216
undelivered_from front words lines back a b c d =
    let e1 = length-append front words in
    let e2 = length-append (front ++ words) (line []) in
    let e3 = length-append (front ++ words ++ line []) lines in
    let e4 = length-append (front ++ words ++ line [] ++ lines) (line []) in
    let e5 = length-append (front ++ words ++ line [] ++ lines ++ line []) back in
    omega (arith, a, b, c, d, e1, e2, e3, e4, e5)

-- a notice about at most 500 failures
pub undelivered_told : (plan : Plan) (mail : Mail) (failed : List Failure) → is_short_domain plan.host_name ≡ true → length (written mail.head) ≤ 65_536
    → length failed ≤ 500 → AllByRecursion IsTold failed → length (undelivered plan mail failed) ≤ 16_777_216
undelivered_told plan mail failed host head most told =
    let lines = failures_short failed told in
    undelivered_from (opening plan) (line (codes "Your message could not be delivered to:")) (flat_map failure_line failed) (closing mail)
    (opening_short plan host) (omega arith) (omega (arith, lines, most)) (closing_short mail head)

all_told : (message : List ℕ) (rs : List Mailbox) → length message ≤ 512 → list_all is_short rs ≡ true → AllByRecursion IsTold (failures message rs)
all_told message [] few short = tt
all_told message (r ∷ rs) few short = let each = and_parts (is_short r) (list_all is_short rs) short in ((each.0, omega (arith, few)), all_told message rs few each.1)

failures_len : (message : List ℕ) (rs : List Mailbox) → length (failures message rs) ≡ length rs
failures_len message [] = refl
failures_len message (r ∷ rs) = ap suc (failures_len message rs)

-- the same where all failed for one reason
pub undelivered_short : (plan : Plan) (mail : Mail) (message : List ℕ) (rs : List Mailbox) → is_short_domain plan.host_name ≡ true → length (written mail.head) ≤ 65_536
    → length message ≤ 512 → length rs ≤ 500 → list_all is_short rs ≡ true → length (undelivered plan mail (failures message rs)) ≤ 16_777_216
undelivered_short plan mail message rs host head few most short =
    undelivered_told plan mail (failures message rs) host head (omega (arith, most, failures_len message rs)) (all_told message rs few short)

troubled_from : (front error back : List ℕ) → length front ≤ 300 → length error ≤ 1_000 → length back ≤ 65_600 → length (front ++ line (codes "Error: " ++ error) ++ line [] ++ back) ≤ 16_777_216
troubled_from front error back a b c =
    let e1 = length-append (codes "Error: ") error in
    let e2 = line_len (codes "Error: " ++ error) in
    let e3 = length-append front (line (codes "Error: " ++ error)) in
    let e4 = length-append (front ++ line (codes "Error: " ++ error)) (line []) in
    let e5 = length-append (front ++ line (codes "Error: " ++ error) ++ line []) back in
    omega (arith, a, b, c, e1, e2, e3, e4, e5)

pub troubled_short : (plan : Plan) (mail : Mail) → is_short_domain plan.host_name ≡ true → length (written mail.head) ≤ 65_536 → length mail.error ≤ 1_000 → length (troubled plan mail) ≤ 16_777_216
troubled_short plan mail host head error = troubled_from (opening plan) mail.error (closing mail) (opening_short plan host) error (closing_short mail head)

-- ---- The notice

pub notice_limits : (plan : Plan) (mail : Mail) (to : Mailbox) (subject body : List ℕ) → is_short plan.postmaster ≡ true → is_short to ≡ true → length subject ≤ 100
    → length body ≤ 16_777_216 → keeps_limits (notice plan mail to subject body) ≡ true
notice_limits plan mail to subject body from there few small =
    limits_kept (notice plan mail to subject body)
    (record {
      recipients = refl;
      short = both_true (is_short to) true there refl;
      sender = refl;
      attributes = refl;
      error = refl;
      head = of_le (length (written (notice_head plan to subject mail.due))) MAX_HEAD (head_short plan to subject mail.due from there few);
      body = of_le (length body) MAX_BODY small;
    })
