-- What a step's matcher says of a mail.
use Rattle.std.specs.Prelude.{ℕ, Bool, true, false, List, ◌++◌, codes, Option, Some, None}
use Rattle.std.specs.Fmt.{decimal}
use Rattle.mj_mail.specs.declared.mail.Mail.{Mail}
use Rattle.mj_plan.specs.declared.plan.MatchRoute.{MatchRoute}
use Rattle.mj_plan.specs.declared.plan.MatchRoute.TheVariants.{NoMatch, MatchAll, To}
use Rattle.mj_plan.specs.declared.plan.Plan.{Plan}
use Rattle.mj_plan.specs.declared.plan.Step.{Step}
use Rattle.mj_container.specs.Matching.{Mailbox, first_failed, hits}

-- the whole mail leaves to a state, for a reason; or each recipient is taken or passed by
pub data Verdict : Type 0 where
  Leaves : List ℕ → List ℕ → Verdict
  Takes : (Mailbox → Bool) → Verdict

-- why a mail left whose matcher failed at the condition of this number
abbrev pub matcher_failed : ℕ → List ℕ
matcher_failed condition = codes "matcher failed at condition " ++ decimal condition

-- where a matcher failed, its route says what it takes, or where the mail goes
abbrev pub by_route : MatchRoute → ℕ → Verdict
by_route NoMatch condition = Takes (λ r. false)
by_route MatchAll condition = Takes (λ r. true)
by_route (To state) condition = Leaves state (matcher_failed condition)

abbrev pub judged : Plan → Step → Mail → Option ℕ → Verdict
judged plan step mail None = Takes (λ r. hits plan mail r step.matcher)
judged plan step mail (Some condition) = by_route step.on_match condition

abbrev pub verdict : Plan → Step → Mail → Verdict
verdict plan step mail = judged plan step mail (first_failed mail step.matcher)
