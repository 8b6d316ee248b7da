-- Composites, by how many of their children hold.
use Rattle.std.specs.Prelude.{ℕ, suc, Bool, true, false, List, ◌∷◌, length, map, filter}
use Rattle.mj_mail.specs.declared.mail.Mail.{Mail}
use Rattle.mj_plan.specs.declared.matcher.MatchExpr.{MatchExpr}
use Rattle.mj_plan.specs.declared.plan.Plan.{Plan}
use Rattle.mj_container.specs.Matching.{Mailbox, hits}

-- how many of them are true
abbrev pub how_many : List Bool → ℕ
how_many truths = length (filter (λ truth. truth) truths)

-- how many of the matchers take this recipient
abbrev pub hits_of : Plan → Mail → List MatchExpr → Mailbox → ℕ
hits_of plan mail matchers r = how_many (map (hits plan mail r) matchers)

-- the count, one higher where the truth is
abbrev pub one_more : ℕ → Bool → ℕ
one_more count true = suc count
one_more count false = count

-- each count, one higher where the truth beside it is true
abbrev pub with_truths : List ℕ → List Bool → List ℕ
with_truths (count ∷ counts) (truth ∷ truths) = one_more count truth ∷ with_truths counts truths
with_truths counts truths = counts
