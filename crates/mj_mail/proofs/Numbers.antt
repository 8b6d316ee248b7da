-- Children and their numbers, one more at a time.
use Rattle.std.proofs.Common.{◌≡◌, ◌∙◌, ℕ, suc, ◌+◌, List, [], ◌∷◌, ◌++◌, length, ap, arith, add-zero}
use Rattle.mj_mail.specs.declared.mail.Mail.{Mail}
use Rattle.mj_mail.specs.Outcome.{numbered_child, numbered_from}

pub numbered_next : (number : ℕ) (children : List Mail) (child : Mail)
    → numbered_from number (children ++ child ∷ []) ≡ numbered_from number children ++ numbered_child (number + length children) child ∷ []
numbered_next number [] child = rw add-zero
numbered_next number (first ∷ children) child =
    let same : (number + 1) + length children ≡ number + suc (length children) = omega arith in
    ap (λ rest. numbered_child number first ∷ rest)
    (numbered_next (number + 1) children child ∙ ap (λ n. numbered_from (number + 1) children ++ numbered_child n child ∷ []) same)
