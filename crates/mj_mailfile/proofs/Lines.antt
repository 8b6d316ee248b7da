-- The lines of a text, put one after the other, are the text.
use Rattle.std.proofs.Common.{◌≡◌, ℕ, Bool, true, false, cond, List, [], ◌∷◌, codes, Ok, refl, ap, ◌∙◌}
use Rattle.std.specs.List.{concat}
use Rattle.mj_terms.specs.Text.{same_text, trim_back}
use Rattle.mj_head.specs.Head.{lines, lengthened, content}
use Rattle.mj_mailfile.specs.MailFile.{Mailbox, message_behind}

concat_lengthened : (b : ℕ) (parts : List (List ℕ)) → concat (lengthened b parts) ≡ b ∷ concat parts
concat_lengthened b [] = refl
concat_lengthened b (line ∷ rest) = refl

concat_chosen : (b : ℕ) (parts : List (List ℕ)) (ends : Bool) → concat (cond ends ((b ∷ []) ∷ parts) (lengthened b parts)) ≡ b ∷ concat parts
concat_chosen b parts true = refl
concat_chosen b parts false = concat_lengthened b parts

pub concat_lines : (text : List ℕ) → concat (lines text) ≡ text
concat_lines [] = refl
concat_lines (b ∷ text) = concat_chosen b (lines text) _ ∙ ap (λ rest. b ∷ rest) (concat_lines text)

-- a `DATA` line behind some recipients: the message is all behind it
pub message_is : (found : List Mailbox) (text whole line rest : List ℕ) → (found ≡ [] → ⊥) → lines text ≡ whole ∷ lines rest
    → content whole ≡ line → same_text (trim_back line) (codes "DATA") ≡ true → message_behind found (lines text) ≡ Ok rest
message_is [] text whole line rest some split said here = absurd (some refl)
message_is (address ∷ found) text whole line rest some split said here = rw (split, said, here, concat_lines rest)
