-- Outcomes of a step: facts about a mail, and the mails that it becomes.
use Rattle.std.specs.Prelude.{ℕ, ◌+◌, List, [], ◌∷◌, ◌++◌}
use Rattle.mj_mail.specs.declared.fact.Fact.{Fact}
use Rattle.mj_mail.specs.declared.fact.Outcome.{Outcome}
use Rattle.mj_mail.specs.declared.mail.Mail.{Mail}
use Rattle.mj_mail.specs.Name.{child_name}

abbrev pub nothing : Outcome
nothing = record { facts = []; children = [] }

abbrev pub one_fact : Fact → Outcome
one_fact fact = record { facts = fact ∷ []; children = [] }

abbrev pub one_child : Mail → Outcome
one_child child = record { facts = []; children = child ∷ [] }

-- facts follow facts, and children follow children
abbrev pub both : Outcome → Outcome → Outcome
both a b = record { facts = a.facts ++ b.facts; children = a.children ++ b.children }

-- a child, with its number at the end of the name that it was given
abbrev pub numbered_child : ℕ → Mail → Mail
numbered_child number child = record child { name = child_name child.name number }

abbrev pub numbered_from : ℕ → List Mail → List Mail
numbered_from number [] = []
numbered_from number (child ∷ children) = numbered_child number child ∷ numbered_from (number + 1) children

-- the children with their numbers, from 1
abbrev pub numbered : Outcome → Outcome
numbered outcome = record outcome { children = numbered_from 1 outcome.children }
