-- The pieces of a notice's body, put one after the other.
use Rattle.std.proofs.Common.{◌≡◌, ℕ, List, [], ◌∷◌, ◌++◌, codes, ap, sym, ◌∙◌}
use Rattle.std.specs.List.{flat_map}
use Rattle.std.proofs.lemmas.List.{append_assoc}
use Rattle.mj_head.specs.Head.{written}
use Rattle.mj_mail.specs.declared.failure.Failure.{Failure}
use Rattle.mj_mail.specs.declared.mail.Mail.{Mail}
use Rattle.mj_plan.specs.declared.plan.Plan.{Plan}
use Rattle.mj_container.specs.Notices.{closing, failure_line, line, opening, undelivered}

three : (before front middle back : List ℕ) → ((before ++ front) ++ middle) ++ back ≡ before ++ (front ++ (middle ++ back))
three before front middle back = append_assoc (before ++ front) middle back ∙ append_assoc before front (middle ++ back)

five : (a b c d e : List ℕ) → (((a ++ b) ++ c) ++ d) ++ e ≡ a ++ (b ++ (c ++ (d ++ e)))
five a b c d e = append_assoc ((a ++ b) ++ c) d e ∙ three a b c (d ++ e)

-- the words, the name of the host and the end of the opening
pub opening_put : (plan : Plan) (before with_words with_name after : List ℕ)
    → with_words ≡ before ++ codes "This is the mail system at " → with_name ≡ with_words ++ plan.host_name
    → after ≡ with_name ++ 46 ∷ 13 ∷ 10 ∷ 13 ∷ 10 ∷ [] → after ≡ before ++ opening plan
opening_put plan before with_words with_name after e1 e2 e3 =
    e3
    ∙ ap (λ text. text ++ 46 ∷ 13 ∷ 10 ∷ 13 ∷ 10 ∷ []) (e2 ∙ ap (λ text. text ++ plan.host_name) e1)
    ∙ three before (codes "This is the mail system at ") plan.host_name (46 ∷ 13 ∷ 10 ∷ 13 ∷ 10 ∷ [])
    ∙ ap (λ text. before ++ text) (sym (five (codes "This is the mail system at ") plan.host_name (codes ".") (13 ∷ 10 ∷ []) (13 ∷ 10 ∷ [])))

-- the words and the head
pub closing_put : (mail : Mail) (before with_words after : List ℕ)
    → with_words ≡ before ++ (codes "The head of your message follows." ++ 13 ∷ 10 ∷ 13 ∷ 10 ∷ [])
    → after ≡ with_words ++ written mail.head → after ≡ before ++ closing mail
closing_put mail before with_words after e1 e2 =
    e2
    ∙ ap (λ text. text ++ written mail.head) e1
    ∙ append_assoc before (codes "The head of your message follows." ++ 13 ∷ 10 ∷ 13 ∷ 10 ∷ []) (written mail.head)

-- the opening, the words, the failures, an empty line and the closing
pub undelivered_put : (plan : Plan) (mail : Mail) (failed : List Failure) (opened with_words with_failures with_line after : List ℕ)
    → opened ≡ opening plan
    → with_words ≡ opened ++ (codes "Your message could not be delivered to:" ++ 13 ∷ 10 ∷ 13 ∷ 10 ∷ [])
    → with_failures ≡ with_words ++ flat_map failure_line failed
    → with_line ≡ with_failures ++ 13 ∷ 10 ∷ []
    → after ≡ with_line ++ closing mail → after ≡ undelivered plan mail failed
undelivered_put plan mail failed opened with_words with_failures with_line after e1 e2 e3 e4 e5 =
    e5
    ∙ ap (λ text. text ++ closing mail)
    (e4
    ∙ ap (λ text. text ++ 13 ∷ 10 ∷ [])
    (e3
    ∙ ap (λ text. text ++ flat_map failure_line failed)
    (e2
    ∙ ap (λ text. text ++ (codes "Your message could not be delivered to:" ++ 13 ∷ 10 ∷ 13 ∷ 10 ∷ [])) e1
    ∙ sym (append_assoc (opening plan) (line (codes "Your message could not be delivered to:")) (line [])))))
