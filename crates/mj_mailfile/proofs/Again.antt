-- A written mail file is read as the same mail.
use Rattle.std.proofs.Common.{◌≡◌, ℕ, eqb, ◌==◌, zero, suc, ◌+◌, ◌-◌, ◌<◌, ◌≤◌, Bool, true, false, not, ◌||◌, List, [], ◌∷◌, ◌++◌, length, take, drop, get_or, codes, Option, Some, None, IfSome, Result, Ok, Err, IfOk, refl, sym, ap, subst, ◌∙◌, arith, add-zero, append_assoc, length-append}
use Rattle.std.specs.List.{list_all, slice_split, AllByRecursion}
use Rattle.std.proofs.lemmas.Bool.{and_parts, eqb-true, ne_eqb, le-ltb, true≢false}
use Rattle.std.proofs.Math.Bool.{and-false}
use Rattle.std.proofs.lemmas.Bool.Decides.{nat_tests}
use Rattle.std.proofs.lemmas.List.{take_all, drop_all, take_more, drop_more, length-take-le}
use Rattle.std.proofs.lemmas.List.Folds.{list_all-append}
use Rattle.std.proofs.Math.Seq.{take-append_seam, drop-append_seam, drop-append-add}
use Rattle.mj_terms.specs.Text.{is_blank, trim_back}
use Rattle.mj_address.specs.Grammar.{is_atom, is_atom_byte, is_dot, is_label, is_label_byte, IsAddress}
use Rattle.mj_address.specs.Reading.{spelled, address_of}
use Rattle.mj_address.specs.Same.{AreDifferent, AreRecipients}
use Rattle.mj_address.proofs.Different.{fresh}
use Rattle.mj_address.proofs.Spellings.{read_again as address_again, bytes_of_pieces, all_weaker, label_bytes}
use Rattle.mj_head.specs.Head.{lines, content, is_head, written, head_of}
use Rattle.mj_head.proofs.Law.{read_again as head_again}
use Rattle.mj_head.proofs.Lines.{Lacks, lines_split, content-cons}
use Rattle.mj_mail.specs.declared.mail.NewMail.{NewMail}
use Rattle.mj_mailfile.specs.MailFile.{Mailbox, bracketed, before_bracket, mailbox, path_of, sender_of, with_recipient, recipients_of, message_behind, mail_with, mail_of, mail_of_lines, mail_file}
use Rattle.mj_mailfile.specs.Written.{ended, in_brackets, path_text, sender_text, recipient_text, recipients_before, written_file}
use Rattle.mj_mailfile.specs.declared.fault.MailFault.TheVariants.{TooLarge}
use Rattle.mj_terms.specs.Limits.{within}
use Rattle.mj_mailfile.proofs.Lines.{concat_lines}

-- ---- Bytes without LF

lacks_append : (a b : List ℕ) → Lacks 10 a → Lacks 10 b → Lacks 10 (a ++ b)
lacks_append a b x y = list_all-append (λ c. not (eqb c 10)) a b ∙ rw (x, y)

not_lf : (b : ℕ) (test : Bool) → (eqb b 10 ≡ true → test ≡ false) → test ≡ true → eqb b 10 ≡ false
not_lf b test h e = elim (eqb b 10) as (λ r. eqb b 10 ≡ r → r ≡ false) [ true ↦ λ same. absurd (true≢false (sym e ∙ h same)) | false ↦ λ same. refl ] refl

byte_of_local : (b : ℕ) → is_atom_byte b || is_dot b ≡ true → eqb b 10 ≡ false
byte_of_local b h = not_lf b (is_atom_byte b || is_dot b) (λ same. ap (λ c. is_atom_byte c || is_dot c) (eqb-true b 10 same)) h

byte_of_domain : (b : ℕ) → is_label_byte b || is_dot b ≡ true → eqb b 10 ≡ false
byte_of_domain b h = grind (arith, nat_tests)

lacks_from : (test : ℕ → Bool) → ((b : ℕ) → test b ≡ true → eqb b 10 ≡ false) → (text : List ℕ) → list_all test text ≡ true → Lacks 10 text
lacks_from test apart [] all = refl
lacks_from test apart (b ∷ text) all =
    let parts = and_parts (test b) (list_all test text) all in
    rw (apart b parts.0) (lacks_from test apart text parts.1)

atom_bytes : (piece : List ℕ) → is_atom piece ≡ true → list_all is_atom_byte piece ≡ true
atom_bytes piece h = grind arith

pub spelled_lacks : (address : Mailbox) → IsAddress address → Lacks 10 (spelled address)
spelled_lacks address form =
    let local = bytes_of_pieces is_atom_byte is_dot address.0 (all_weaker is_atom (list_all is_atom_byte) atom_bytes (slice_split is_dot address.0) form.local.form) in
    let domain = bytes_of_pieces is_label_byte is_dot address.1 (all_weaker is_label (list_all is_label_byte) label_bytes (slice_split is_dot address.1) form.domain.form) in
    lacks_append address.0 (64 ∷ address.1)
    (lacks_from (λ b. is_atom_byte b || is_dot b) byte_of_local address.0 local)
    (lacks_from (λ b. is_label_byte b || is_dot b) byte_of_domain address.1 domain)

-- ---- Lines

pub ended_lines : (line rest : List ℕ) → Lacks 10 line → lines (ended line rest) ≡ (line ++ 13 ∷ 10 ∷ []) ∷ lines rest
ended_lines line rest h =
    ap lines (sym (append_assoc line (13 ∷ []) (10 ∷ rest)))
    ∙ lines_split (line ++ 13 ∷ []) rest (lacks_append line (13 ∷ []) h refl)
    ∙ ap (λ whole. whole ∷ lines rest) (append_assoc line (13 ∷ []) (10 ∷ []))

pub ended_content : (line : List ℕ) → content (line ++ 13 ∷ 10 ∷ []) ≡ line
ended_content [] = refl
ended_content (a ∷ line) = content-cons a (line ++ 13 ∷ 10 ∷ []) (simp length-append (omega arith)) ∙ ap (λ rest. a ∷ rest) (ended_content line)

-- ---- Brackets

not_blank : (text : List ℕ) → list_all is_blank (text ++ 62 ∷ []) ≡ false
not_blank [] = refl
not_blank (b ∷ text) = rw (not_blank text) (and-false (is_blank b))

kept_back : (text : List ℕ) → trim_back (text ++ 62 ∷ []) ≡ text ++ 62 ∷ []
kept_back [] = refl
kept_back (b ∷ text) = rw (not_blank (b ∷ text), kept_back text)

bracket_taken : (text : List ℕ) → before_bracket (text ++ 62 ∷ []) ≡ Some text
bracket_taken text =
    let len : length (text ++ 62 ∷ []) ≡ length text + 1 = length-append text (62 ∷ []) in
    let last : drop (length (text ++ 62 ∷ []) - 1) (text ++ 62 ∷ []) ≡ 62 ∷ [] = ap (λ n. drop n (text ++ 62 ∷ [])) (omega arith) ∙ drop-append_seam text (62 ∷ []) in
    let front : take (length (text ++ 62 ∷ []) - 1) (text ++ 62 ∷ []) ≡ text = ap (λ n. take n (text ++ 62 ∷ [])) (omega arith) ∙ take-append_seam text (62 ∷ []) in
    rw (last, front)

pub bracketed_is : (text : List ℕ) → bracketed (in_brackets text) ≡ Some text
bracketed_is text = rw (kept_back text) (bracket_taken text)

-- ---- The envelope

path_again : (text : List ℕ) (address : Mailbox) → address_of text ≡ Ok address → path_of text ≡ Some (Some address)
path_again [] address e = absurd cc
path_again (b ∷ text) address e = rw e

path_is : (sender : Option Mailbox) → IfSome sender IsAddress → path_of (path_text sender) ≡ Some sender
path_is None form = refl
path_is (Some address) form = path_again (spelled address) address (address_again address form)

pub sender_again : (sender : Option Mailbox) → IfSome sender IsAddress → sender_of (sender_text sender) ≡ Ok sender
sender_again sender form = rw (bracketed_is (path_text sender), path_is sender form)

path_lacks : (sender : Option Mailbox) → IfSome sender IsAddress → Lacks 10 (path_text sender)
path_lacks None form = refl
path_lacks (Some address) form = spelled_lacks address form

bracket_lacks : (text : List ℕ) → Lacks 10 text → Lacks 10 (in_brackets text)
bracket_lacks text h = lacks_append text (62 ∷ []) h refl

pub mailbox_again : (address : Mailbox) → IsAddress address → mailbox (in_brackets (spelled address)) ≡ Some address
mailbox_again address form = rw (bracketed_is (spelled address), address_again address form)

address_at : (list : List Mailbox) (k : ℕ) (d : Mailbox) → AllByRecursion IsAddress list → k < length list → IsAddress (get_or list k d)
address_at [] k d all within = absurd (omega arith)
address_at (address ∷ list) zero d all within = all.0
address_at (address ∷ list) (suc k) d all within = address_at list k d all.1 (omega arith)

one_more : (number k : ℕ) (list : List Mailbox) (d : Mailbox) → AreDifferent list → k < length list → length list ≤ 500
    → with_recipient number (take k list) (Some (get_or list k d)) ≡ Ok (take (k + 1) list)
one_more number k list d different within few =
    let size : length (take k list) ≡ k = length-take-le k list (omega arith) in
    let room : (length (take k list) == 500) ≡ false = rw size (ne_eqb k 500 (λ same. absurd (omega arith))) in
    rw (fresh list k d different within, room) (ap (λ all. Ok all) (sym (take_more list k d within)))

-- the line of one recipient
recipient_again : (number : ℕ) (found all : List Mailbox) (address : Mailbox) (whole : List ℕ) (rest : List (List ℕ)) → IsAddress address
    → content whole ≡ recipient_text address → with_recipient number found (Some address) ≡ Ok all
    → recipients_of number found (whole ∷ rest) ≡ recipients_of (number + 1) all rest
recipient_again number found all address whole rest form said taken = rw (said, mailbox_again address form, taken)

line_again : (number : ℕ) (found all : List Mailbox) (address : Mailbox) (rest : List ℕ) → IsAddress address
    → with_recipient number found (Some address) ≡ Ok all
    → recipients_of number found (lines (ended (recipient_text address) rest)) ≡ recipients_of (number + 1) all (lines rest)
line_again number found all address rest form taken =
    ap (recipients_of number found) (ended_lines (recipient_text address) rest (bracket_lacks (spelled address) (spelled_lacks address form)))
    ∙ recipient_again number found all address (recipient_text address ++ 13 ∷ 10 ∷ []) (lines rest) form (ended_content (recipient_text address)) taken

module _ (list : List Mailbox) (form : AreRecipients list) (few : length list ≤ 500) (tail : List ℕ) where
  -- so many are left from the place on
  pub recipients_again : (left k number : ℕ) → k + left ≡ length list
      → recipients_of number (take k list) (lines (recipients_before (drop k list) tail)) ≡ recipients_of (number + left) list (lines tail)
  recipients_again zero k number e =
      rw (take_all k list (omega arith), drop_all k list (omega arith), add-zero number)
  recipients_again (suc left) k number e =
      let within : k < length list = omega arith in
      let address = get_or list k ([], []) in
      let next = recipients_again left (k + 1) (number + 1) (omega arith) in
      let rest = recipients_before (drop (k + 1) list) tail in
      let number_is : number + 1 + left ≡ number + suc left = omega arith in
      ap (λ more. recipients_of number (take k list) (lines (recipients_before more tail))) (drop_more list k ([], []) within)
      ∙ line_again number (take k list) (take (k + 1) list) address rest (address_at list k ([], []) form.addresses within) (one_more number k list ([], []) form.different within few)
      ∙ next ∙ ap (λ n. recipients_of n list (lines tail)) number_is

-- ---- The whole file

message_again : (list : List Mailbox) (message : List ℕ) → 1 ≤ length list → message_behind list (lines (ended (codes "DATA") message)) ≡ Ok message
message_again [] message some = absurd (omega arith)
message_again (address ∷ list) message some = ap (λ text. Ok text) (concat_lines message)

fits : (limit : ℕ) {X : Type 0} (over : X) (says : List ℕ → X) (text : List ℕ) → length text ≤ limit → within limit over says text ≡ says text
fits limit over says text h = rw (le-ltb limit (length text) h)

lines_again : (sender : Option Mailbox) (found : List Mailbox) (message whole : List ℕ) (rest behind : List (List ℕ)) → IfSome sender IsAddress
    → content whole ≡ sender_text sender → recipients_of 2 [] rest ≡ Ok (found, behind) → message_behind found behind ≡ Ok message
    → mail_of_lines (whole ∷ rest) ≡ mail_with sender found message (head_of message)
lines_again sender found message whole rest behind form said all last = rw (said, sender_again sender form, all, last)

pub mail_again : (mail : NewMail) → IfSome mail.sender IsAddress → AreRecipients mail.recipients → is_head mail.head ≡ true
    → 1 ≤ length mail.recipients → length mail.recipients ≤ 500 → mail_of (written_file mail) ≡ Ok mail
unfolding mail_of
mail_again mail sender form head some few =
    let message = ended (written mail.head) mail.body in
    let data_line = ended (codes "DATA") message in
    let envelope = recipients_before mail.recipients data_line in
    let first = ended_lines (sender_text mail.sender) envelope (bracket_lacks (path_text mail.sender) (path_lacks mail.sender sender)) in
    let found : recipients_of 2 [] (lines envelope) ≡ Ok (mail.recipients, lines data_line) = recipients_again mail.recipients form few data_line (length mail.recipients) 0 2 (omega arith) in
    let body : drop (length (written mail.head) + 2) message ≡ mail.body = drop-append-add (written mail.head) (13 ∷ 10 ∷ mail.body) 2 in
    ap mail_of_lines first
    ∙ lines_again mail.sender mail.recipients message (sender_text mail.sender ++ 13 ∷ 10 ∷ []) (lines envelope) (lines data_line) sender
    (ended_content (sender_text mail.sender)) found (message_again mail.recipients message some)
    ∙ ap (mail_with mail.sender mail.recipients message) (head_again mail.head head mail.body)
    ∙ ap (λ text. Ok (record mail { body = text })) body

pub file_again : (mail : NewMail) → mail_of (written_file mail) ≡ Ok mail → length (written_file mail) ≤ 16_777_216 → mail_file (written_file mail) ≡ Ok mail
unfolding mail_file
file_again mail again small = fits 16_777_216 (Err TooLarge) mail_of (written_file mail) small ∙ again

-- what is written of a mail, and what holds of its parts
pub told_again : {E : Type 0} (mail : NewMail) (r : Result (List ℕ) E) → 1 ≤ length mail.recipients → length mail.recipients ≤ 500
    → IfOk r (λ text. text ≡ written_file mail) → IfOk r (λ _. IfSome mail.sender IsAddress) → IfOk r (λ _. AreRecipients mail.recipients)
    → IfOk r (λ _. is_head mail.head ≡ true) → IfOk r (λ text. length text ≤ 16_777_216 → mail_file text ≡ Ok mail)
told_again mail (Err memory) some few is sender recipients head = tt
told_again mail (Ok text) some few is sender recipients head =
    λ small. ap mail_file is
    ∙ file_again mail (mail_again mail sender recipients head some few) (subst (λ written. length written ≤ 16_777_216) is small)

-- ---- Writing

-- a line of the envelope at the end of a text
pub line_put : (out words path rest : List ℕ) → (out ++ ((words ++ 60 ∷ []) ++ (path ++ 62 ∷ 13 ∷ 10 ∷ []))) ++ rest ≡ out ++ ended (words ++ in_brackets path) rest
line_put out words path rest = simp append_assoc
