-- What follows on a mail: its children are sound again, and come closer to their end.
use Rattle.std.proofs.Common.{◌≡◌, ◌∙◌, ℕ, ◌+◌, ◌<◌, ◌≤◌, true, List, [], ◌∷◌, length, refl, ap, arith, length-append}
use Rattle.std.specs.Prelude.{◌&&◌}
use Rattle.std.specs.List.{AllByRecursion}
use Rattle.mj_mail.specs.declared.fact.Outcome.{Outcome}
use Rattle.mj_mail.specs.declared.mail.Mail.{Mail}
use Rattle.mj_mail.specs.declared.mail.Stage.{Stage}
use Rattle.mj_mail.specs.declared.mail.Stage.TheVariants.{Process, Remote}
use Rattle.mj_mail.specs.Outcome.{numbered_child}
use Rattle.mj_mail.specs.Rules.{IsOwnBody}
use Rattle.mj_plan.specs.declared.plan.Plan.{Plan}
use Rattle.mj_container.specs.Sound.{is_sound, keeps_limits, latest, latest_attempt, may_stand, measure, names_delivery, names_processor}
use Rattle.mj_container.proofs.Facts.{Waits, tried_sound, waits_sound}
use Rattle.mj_container.proofs.Services.{IsAhead, IsKept, IsSent}

-- a child that keeps the name and the body of its mail, and with its number is sound and closer to its end
pub record IsNext (plan : Plan) (mail child : Mail) : Type 0 where
  pub name : child.name ≡ mail.name
  pub body : IsOwnBody mail.body child.body
  pub limits : keeps_limits child ≡ true
  pub falls : (number : ℕ) → measure (numbered_child number child) < measure mail
  pub sound : (number : ℕ) → is_sound plan (numbered_child number child) ≡ true

-- an outcome of such children and of facts that keep the limits; there is one at least
pub record IsOutcome (plan : Plan) (mail : Mail) (outcome : Outcome) : Type 0 where
  pub children : AllByRecursion (IsNext plan mail) outcome.children
  pub facts : AllByRecursion (IsKept mail) outcome.facts
  pub some : 1 ≤ length outcome.facts + length outcome.children

module _ (plan : Plan) (mail child : Mail) (name : child.name ≡ mail.name) (body : IsOwnBody mail.body child.body) (limits : keeps_limits child ≡ true)
    (room : length mail.name.path + measure mail ≤ 102_203) where
  path_room : (number : ℕ) → measure (numbered_child number child) < measure mail
      → length (numbered_child number child).name.path + measure (numbered_child number child) ≤ 102_203
  path_room number falls =
      let path : length child.name.path ≡ length mail.name.path = ap (λ name. length name.path) name in
      omega (arith, falls, room, path, length-append child.name.path (number ∷ []))

  -- with a hop more it is closer to its end
  pub hop_falls : child.hops ≡ mail.hops + 1 → mail.hops ≤ 1_000 → (number : ℕ) → measure (numbered_child number child) < measure mail
  unfolding measure
  hop_falls hops few number = omega (arith, hops, few)

  -- it waits for a processor
  pub next_waits : (state : List ℕ) → child.stage ≡ Process state → names_processor plan state ≡ true → child.hops ≡ mail.hops + 1 → mail.hops ≤ 1_000
      → child.due ≤ latest child.hops
      → IsNext plan mail child
  next_waits state stage named hops few due = record {
    name = name;
    body = body;
    limits = limits;
    falls = hop_falls hops few;
    sound = λ number.
        ap (λ stage. keeps_limits (numbered_child number child) && may_stand plan stage (numbered_child number child)) stage
        ∙ waits_sound plan state (numbered_child number child)
        (record { limits = limits; named = named; hops = omega (arith, hops, few); due = due; path = path_room number (hop_falls hops few number) });
  }

  -- it waits for an attempt
  pub next_tried : (delivery host : List ℕ) (attempt : ℕ) → child.stage ≡ Remote delivery host attempt → names_delivery plan delivery ≡ true → 1 ≤ child.hops
      → child.hops ≤ 1_000
      → 1 ≤ attempt → attempt ≤ 101 → child.due ≤ latest_attempt child.hops attempt
      → ((number : ℕ) → measure (numbered_child number child) < measure mail) → IsNext plan mail child
  next_tried delivery host attempt stage named some few first last due falls = record {
    name = name;
    body = body;
    limits = limits;
    falls = falls;
    sound = λ number.
        ap (λ stage. keeps_limits (numbered_child number child) && may_stand plan stage (numbered_child number child)) stage
        ∙ tried_sound plan delivery host attempt (numbered_child number child)
        (record { limits = limits; named = named; some_hops = some; few_hops = few; first = first; last = last; due = due; path = path_room number (falls number) });
  }

-- ---- Of a mail in a processor

due_later : (mail child : Mail) → child.hops ≡ mail.hops + 1 → child.due ≡ mail.due → mail.due ≤ latest mail.hops → child.due ≤ latest child.hops
unfolding latest
due_later mail child hops due early = omega (arith, hops, due, early)

due_sent : (mail child : Mail) → child.hops ≡ mail.hops + 1 → child.due ≡ mail.due → mail.due ≤ latest mail.hops → child.due ≤ latest_attempt child.hops 1
unfolding latest latest_attempt
due_sent mail child hops due early = omega (arith, hops, due, early)

module _ (plan : Plan) (mail child : Mail) (young : mail.hops < 1_000) (s : IsSent plan mail child) (state : List ℕ) (w : Waits plan state mail) where
  sent_by : (stage : Stage) → child.stage ≡ stage → IsAhead plan stage → IsNext plan mail child
  sent_by (Process to) e ahead =
      next_waits plan mail child s.name s.body s.limits w.path to e ahead s.hops (omega (arith, young)) (due_later mail child s.hops s.due w.due)
  sent_by (Remote delivery host attempt) e ahead =
      next_tried plan mail child s.name s.body s.limits w.path delivery host 1 (e ∙ ap (Remote delivery host) ahead.1) ahead.0
      (omega (arith, s.hops)) (omega (arith, s.hops, young)) (omega arith) (omega arith) (due_sent mail child s.hops s.due w.due)
      (hop_falls plan mail child s.name s.body s.limits w.path s.hops (omega (arith, young)))

  -- what is sent from a processor is sound
  pub sent_next : IsNext plan mail child
  sent_next = sent_by child.stage refl s.ahead
