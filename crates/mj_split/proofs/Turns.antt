-- The parts that wait, beside the definition, which is a recursion over the steps.
use Rattle.std.proofs.Common.{◌≡◌, ◌∙◌, ℕ, zero, suc, ◌+◌, ◌-◌, ◌<◌, ◌≤◌, true, List, [], ◌∷◌, ◌++◌, length, drop, Option, Some, None, refl, sym, ap, subst, arith, append_assoc, append-nil, drop-cons, inl, inr}
use Rattle.std.specs.Prelude.{nat_le, ◌&&◌, not}
use Rattle.std.specs.List.{list_all, slice_get}
use Rattle.std.specs.Option.{is_some}
use Rattle.std.proofs.lemmas.Bool.{and_parts, cases_lt, true≢false}
use Rattle.std.proofs.lemmas.Option.{get_or_from_slice_get, slice_get-get_or, slice_get_within}
use Rattle.std.proofs.Math.ListN.{drop_of_length-le}
use Rattle.mj_address.specs.Short.{is_short}
use Rattle.mj_mail.specs.declared.fact.Fact.TheVariants.{FellOff}
use Rattle.mj_mail.specs.declared.fact.Outcome.{Outcome}
use Rattle.mj_mail.specs.declared.limits.TheConstants.{MAX_RECIPIENTS}
use Rattle.mj_mail.specs.declared.mail.Mail.{Mail}
use Rattle.mj_mail.specs.Mail.{restrict}
use Rattle.mj_mail.specs.Outcome.{both, nothing, one_fact}
use Rattle.mj_plan.specs.declared.plan.Plan.{Plan}
use Rattle.mj_plan.specs.declared.plan.Processor.{Processor}
use Rattle.mj_plan.specs.declared.plan.Step.{Step}
use Rattle.mj_plan.specs.Forms.{is_processor_name}
use Rattle.mj_plan.specs.Sound.{is_mailet, is_mailet_route, is_match_route, is_matcher, is_processor, is_reserved, is_step}
use Rattle.mj_container.specs.Matching.{Mailbox}
use Rattle.mj_container.specs.Running.{part, parted, run, served, split}
use Rattle.mj_container.specs.Sound.{IsFit}
use Rattle.mj_container.specs.Verdict.{verdict}
use Rattle.mj_container.proofs.Facts.{both_true, le_of, limits_of, of_le}
use Rattle.mj_container.proofs.Fit.{restricted_fit}
use Rattle.mj_split.specs.declared.run.Waiting.{Waiting}
use Rattle.mj_split.specs.Parts.{IsFitNext, WaitFit, for_any, goes_on, waits_at}

-- ---- Outcomes

both_assoc : (a b c : Outcome) → both (both a b) c ≡ both a (both b c)
both_assoc a b c = λ i. record { facts = append_assoc a.facts b.facts c.facts i; children = append_assoc a.children b.children c.children i }

pub both_nothing : (o : Outcome) → both o nothing ≡ o
both_nothing o = λ i. record { facts = append-nil o.facts i; children = append-nil o.children i }

-- ---- A part that is served, and the rest

side : (serving on : Mail → Outcome) (mail : Mail) (hits others : List Mailbox) → (hits ≡ [] → ⊥)
    → both (serving (restrict mail hits)) (part on mail others) ≡ parted serving on mail hits others
side serving on mail [] others some = absurd (some refl)
side serving on mail (r ∷ hits) others some = refl

pub sided : (plan : Plan) (name : List ℕ) (number : ℕ) (step : Step) (mail taken : Mail) (hits others : List Mailbox) (before after : Outcome) (going rest : Option Mail)
    → (hits ≡ [] → ⊥) → taken ≡ restrict mail hits
    → ((on : Mail → Outcome) → both after (goes_on on going) ≡ both before (served plan name number step on taken))
    → ((on : Mail → Outcome) → goes_on on rest ≡ part on mail others)
    → (on : Mail → Outcome) → both after (both (goes_on on going) (goes_on on rest)) ≡ both before (parted (served plan name number step on) on mail hits others)
sided plan name number step mail taken hits others before after going rest some is settled passed on =
    sym (both_assoc after (goes_on on going) (goes_on on rest))
    ∙ (λ i. both (settled on i) (passed on i))
    ∙ both_assoc before (served plan name number step on taken) (part on mail others)
    ∙ ap (λ m. both before (both (served plan name number step on m) (part on mail others))) is
    ∙ ap (both before) (side (served plan name number step on) on mail hits others some)

-- ---- What waits: the last part is next

module _ (plan : Plan) (name : List ℕ) (steps : List Step) where
  -- what becomes of a part
  abbrev pub rest_of : Waiting → Outcome
  rest_of waiting = run plan name (waiting.place + 1) (drop waiting.place steps) waiting.mail

  -- what becomes of all that wait
  abbrev pub pending : List Waiting → Outcome
  pending [] = nothing
  pending (waiting ∷ others) = both (pending others) (rest_of waiting)

pending-append : (plan : Plan) (name : List ℕ) (steps : List Step) (xs ys : List Waiting) → pending plan name steps (xs ++ ys) ≡ both (pending plan name steps ys) (pending plan name steps xs)
pending-append plan name steps [] ys = sym (both_nothing (pending plan name steps ys))
pending-append plan name steps (x ∷ xs) ys =
    ap (λ o. both o (rest_of plan name steps x)) (pending-append plan name steps xs ys) ∙ both_assoc (pending plan name steps ys) (pending plan name steps xs) (rest_of plan name steps x)

waits_goes : (plan : Plan) (name : List ℕ) (steps : List Step) (k : ℕ) (next : Option Mail)
    → pending plan name steps (waits_at k next) ≡ goes_on (run plan name (k + 1) (drop k steps)) next
waits_goes plan name steps k None = refl
waits_goes plan name steps k (Some mail) = refl

-- how often a part may still be taken up: each step makes two of one at most
abbrev pub turns : ℕ → ℕ
turns zero = 1
turns (suc n) = suc (turns n + turns n)

abbrev pub weight : ℕ → List Waiting → ℕ
weight count [] = 0
weight count (waiting ∷ others) = turns (count - waiting.place) + weight count others

weight-append : (n : ℕ) (xs ys : List Waiting) → weight n (xs ++ ys) ≡ weight n xs + weight n ys
weight-append n [] ys = omega arith
weight-append n (x ∷ xs) ys = let rest = weight-append n xs ys in omega (arith, rest)

weight_waits : (n k : ℕ) (next : Option Mail) → weight n (waits_at k next) ≤ turns (n - k)
weight_waits n k None = omega arith
weight_waits n k (Some mail) = omega arith

some_turns : (n : ℕ) → 1 ≤ turns n
some_turns zero = omega arith
some_turns (suc n) = omega arith

turns_next : (n k : ℕ) → k < n → turns (n - k) ≡ suc (turns (n - (k + 1)) + turns (n - (k + 1)))
turns_next n k h = let e : n - k ≡ suc (n - (k + 1)) = omega arith in ap turns e

drop_at : (steps : List Step) (k : ℕ) (step : Step) → slice_get steps k ≡ Some step → drop k steps ≡ step ∷ drop (k + 1) steps
drop_at steps k step h =
    let within = slice_get_within steps k step h in
    let next : suc k ≡ k + 1 = omega arith in
    drop-cons steps k step within ∙ (λ i. get_or_from_slice_get steps k step step h i ∷ drop (next i) steps)

pub past : (steps : List Step) (k : ℕ) → slice_get steps k ≡ None → length steps ≤ k
past [] k h = omega arith
past (step ∷ steps) k h = elim (cases_lt k (length (step ∷ steps))) [
  | inl within ↦ absurd (true≢false (ap is_some (sym (slice_get-get_or (step ∷ steps) k step within) ∙ h)))
  | inr far ↦ far
]

-- ---- What waits is fit for a mailet

fit-append : (xs ys : List Waiting) → WaitFit xs → WaitFit ys → WaitFit (xs ++ ys)
fit-append [] ys a b = b
fit-append (x ∷ xs) ys a b = (a.0, fit-append xs ys a.1 b)

fit_front : (xs ys : List Waiting) → WaitFit (xs ++ ys) → WaitFit xs
fit_front [] ys a = tt
fit_front (x ∷ xs) ys a = (a.0, fit_front xs ys a.1)

fit_back : (xs ys : List Waiting) → WaitFit (xs ++ ys) → WaitFit ys
fit_back [] ys a = a
fit_back (x ∷ xs) ys a = fit_back xs ys a.1

fit_waits : (k : ℕ) (next : Option Mail) → IsFitNext next → WaitFit (waits_at k next)
fit_waits k None fit = tt
fit_waits k (Some mail) fit = (fit, tt)

-- and so is the part that is popped
pub popped_fit : (old ws : List Waiting) (waiting : Waiting) → old ≡ ws ++ waiting ∷ [] → WaitFit old → IsFit waiting.mail
popped_fit old ws waiting popped fit = (fit_back ws (waiting ∷ []) (subst WaitFit popped fit)).0

filled : (rs : List Mailbox) → (rs ≡ [] → ⊥) → 1 ≤ length rs
filled [] some = absurd (some refl)
filled (r ∷ rs) some = omega arith

-- a mail for some of its recipients is
pub some_fit : (mail : Mail) (rs : List Mailbox) → IsFit mail → (rs ≡ [] → ⊥) → length rs ≤ length mail.recipients → list_all is_short rs ≡ true → IsFit (restrict mail rs)
some_fit mail rs fit some fewer short =
    let most = le_of (length mail.recipients) MAX_RECIPIENTS (and_parts (nat_le 1 (length mail.recipients)) (nat_le (length mail.recipients) MAX_RECIPIENTS) (limits_of mail fit.limits).recipients).1 in
    restricted_fit mail rs fit
    (both_true (nat_le 1 (length rs)) (nat_le (length rs) MAX_RECIPIENTS) (of_le 1 (length rs) (filled rs some)) (of_le (length rs) MAX_RECIPIENTS (omega (arith, most, fewer)))) short

pub any_fit : (mail : Mail) (rs : List Mailbox) → IsFit mail → length rs ≤ length mail.recipients → list_all is_short rs ≡ true → IsFitNext (for_any mail rs)
any_fit mail [] fit fewer short = tt
any_fit mail (r ∷ rs) fit fewer short = some_fit mail (r ∷ rs) fit (λ e. cc) fewer short

pub any_goes : (on : Mail → Outcome) (mail : Mail) (rs : List Mailbox) → goes_on on (for_any mail rs) ≡ part on mail rs
any_goes on mail [] = refl
any_goes on mail (r ∷ rs) = refl

-- ---- A processor of a sound plan

step_at : (names : List (List ℕ)) (steps : List Step) (k : ℕ) (step : Step) → list_all (is_step names) steps ≡ true → slice_get steps k ≡ Some step → is_step names step ≡ true
step_at names [] k step all at = absurd (let within = slice_get_within {A = Step} [] k step at in omega arith)
step_at names (s ∷ steps) zero step all at = let same : s ≡ step = cc in sym (ap (is_step names) same) ∙ (and_parts (is_step names s) (list_all (is_step names) steps) all).0
step_at names (s ∷ steps) (suc k) step all at = step_at names steps k step (and_parts (is_step names s) (list_all (is_step names) steps) all).1 at

-- it has at most 200 steps
pub few_steps : (names : List (List ℕ)) (processor : Processor) → is_processor names processor ≡ true → length processor.steps ≤ 200
few_steps names processor h =
    let formed = is_processor_name processor.name && not (is_reserved processor.name) in
    le_of (length processor.steps) 200 (and_parts formed (nat_le (length processor.steps) 200) (and_parts (formed && nat_le (length processor.steps) 200) (list_all (is_step names) processor.steps) h).0).1

-- each of its steps has its form
pub formed_at : (names : List (List ℕ)) (processor : Processor) (k : ℕ) (step : Step) → is_processor names processor ≡ true → slice_get processor.steps k ≡ Some step → is_step names step ≡ true
formed_at names processor k step h at =
    let formed = is_processor_name processor.name && not (is_reserved processor.name) in
    step_at names processor.steps k step (and_parts (formed && nat_le (length processor.steps) 200) (list_all (is_step names) processor.steps) h).1 at

-- and so have its matcher and its mailet
pub matcher_of : (names : List (List ℕ)) (step : Step) → is_step names step ≡ true → is_matcher step.matcher ≡ true
matcher_of names step h =
    let front = is_matcher step.matcher && is_match_route names step.on_match in
    let one = and_parts (front && is_mailet names step.mailet) (is_mailet_route names step.on_mailet) h in
    (and_parts (is_matcher step.matcher) (is_match_route names step.on_match) (and_parts front (is_mailet names step.mailet) one.0).0).0

pub mailet_of : (names : List (List ℕ)) (step : Step) → is_step names step ≡ true → is_mailet names step.mailet ≡ true
mailet_of names step h =
    let front = is_matcher step.matcher && is_match_route names step.on_match in
    (and_parts front (is_mailet names step.mailet) (and_parts (front && is_mailet names step.mailet) (is_mailet_route names step.on_mailet) h).0).1

-- ---- One turn: the last part takes its step, or is past the last one

pub record Turn (plan : Plan) (name : List ℕ) (steps : List Step) (all before after : Outcome) (old new : List Waiting) : Type 0 where
  pub told : both after (pending plan name steps new) ≡ all
  pub fit : WaitFit new
  pub lighter : weight (length steps) new < weight (length steps) old

module _ (plan : Plan) (name : List ℕ) (steps : List Step) (all before after : Outcome) (old new ws : List Waiting) (waiting : Waiting)
    (told : both before (pending plan name steps old) ≡ all) (fit : WaitFit old) (popped : old ≡ ws ++ waiting ∷ []) where
  last_first : both before (both (rest_of plan name steps waiting) (pending plan name steps ws)) ≡ all
  last_first = ap (both before) (sym (ap (pending plan name steps) popped ∙ pending-append plan name steps ws (waiting ∷ []))) ∙ told

  old_weight : weight (length steps) old ≡ weight (length steps) ws + (turns (length steps - waiting.place) + 0)
  old_weight = ap (weight (length steps)) popped ∙ weight-append (length steps) ws (waiting ∷ [])

  ws_fit : WaitFit ws
  ws_fit = fit_front ws (waiting ∷ []) (subst WaitFit popped fit)

  pub fell : length steps ≤ waiting.place → after ≡ both before (one_fact (FellOff name waiting.mail.recipients)) → new ≡ ws → Turn plan name steps all before after old new
  fell far put same = record {
    told = (λ i. both (put i) (pending plan name steps (same i))) ∙ both_assoc before (one_fact (FellOff name waiting.mail.recipients)) (pending plan name steps ws)
        ∙ ap (λ left. both before (both (run plan name (waiting.place + 1) left waiting.mail) (pending plan name steps ws))) (sym (drop_of_length-le steps far))
        ∙ last_first;
    fit = subst WaitFit (sym same) ws_fit;
    lighter = let w = ap (weight (length steps)) same in omega (arith, old_weight, w, some_turns (length steps - waiting.place));
  }

  pub stepped : (step : Step) (served rest : Option Mail) → slice_get steps waiting.place ≡ Some step
      → ((on : Mail → Outcome) → both after (both (goes_on on served) (goes_on on rest)) ≡ both before (split plan name (waiting.place + 1) step on waiting.mail (verdict plan step waiting.mail)))
      → IsFitNext served → IsFitNext rest
      → new ≡ (ws ++ waits_at (waiting.place + 1) rest) ++ waits_at (waiting.place + 1) served → Turn plan name steps all before after old new
  stepped step served rest here took fit_served fit_rest same =
      let k = waiting.place + 1 in
      let on = run plan name (k + 1) (drop k steps) in
      let within = slice_get_within steps waiting.place step here in
      record {
        told = ap (λ w. both after (pending plan name steps w)) same
            ∙ ap (both after) (pending-append plan name steps (ws ++ waits_at k rest) (waits_at k served)
            ∙ (λ i. both (waits_goes plan name steps k served i)
            ((pending-append plan name steps ws (waits_at k rest) ∙ ap (λ o. both o (pending plan name steps ws)) (waits_goes plan name steps k rest)) i))
            ∙ sym (both_assoc (goes_on on served) (goes_on on rest) (pending plan name steps ws)))
            ∙ sym (both_assoc after (both (goes_on on served) (goes_on on rest)) (pending plan name steps ws))
            ∙ ap (λ o. both o (pending plan name steps ws)) (took on)
            ∙ both_assoc before (split plan name k step on waiting.mail (verdict plan step waiting.mail)) (pending plan name steps ws)
            ∙ ap (λ left. both before (both (run plan name k left waiting.mail) (pending plan name steps ws))) (sym (drop_at steps waiting.place step here))
            ∙ last_first;
        fit = subst WaitFit (sym same)
            (fit-append (ws ++ waits_at k rest) (waits_at k served) (fit-append ws (waits_at k rest) ws_fit (fit_waits k rest fit_rest)) (fit_waits k served fit_served));
        lighter =
            let n = length steps in
            let w : weight n new ≡ weight n ((ws ++ waits_at k rest) ++ waits_at k served) = ap (weight n) same in
            let w2 = weight-append n (ws ++ waits_at k rest) (waits_at k served) in
            let w3 = weight-append n ws (waits_at k rest) in
            let a = weight_waits n k served in
            let b = weight_waits n k rest in
            let c = turns_next n waiting.place within in
            omega (arith, old_weight, w, w2, w3, a, b, c);
      }

pub emptied : (plan : Plan) (name : List ℕ) (steps : List Step) (waiting : List Waiting) (out all : Outcome) → waiting ≡ [] → both out (pending plan name steps waiting) ≡ all → out ≡ all
emptied plan name steps waiting out all none told = sym (both_nothing out) ∙ sym (ap (λ w. both out (pending plan name steps w)) none) ∙ told
