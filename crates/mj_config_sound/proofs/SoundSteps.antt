-- The steps that a processor's tables are read to have their forms, and their remote deliveries have new names.
use Rattle.std.proofs.Common.{◌≡◌, ℕ, ◌+◌, true, not, List, [], ◌∷◌, ◌++◌, length, Option, Some, None, refl, sym, ap, ◌∙◌, arith}
use Rattle.std.specs.Prelude.{codes}
use Rattle.std.proofs.lemmas.Bool.{and_parts}
use Rattle.std.proofs.lemmas.List.{append-nil}
use Rattle.std.specs.List.{list_all, list_any, cons_option}
use Rattle.std.specs.Option.{option_map_or}
use Rattle.std.specs.Str.{bytes_eq}
use Rattle.toml.specs.Data.{Members, get_member, members_are_sorted}
use Rattle.mj_plan.specs.declared.mailet.MailetKind.{MailetKind}
use Rattle.mj_plan.specs.declared.matcher.MatchExpr.{MatchExpr}
use Rattle.mj_plan.specs.declared.plan.MailetRoute.{MailetRoute}
use Rattle.mj_plan.specs.declared.plan.MailetRoute.TheVariants as on_mailet
use Rattle.mj_plan.specs.declared.plan.MatchRoute.{MatchRoute}
use Rattle.mj_plan.specs.declared.plan.MatchRoute.TheVariants as on_match
use Rattle.mj_plan.specs.declared.plan.Step.{Step}
use Rattle.mj_plan.specs.Sound.{is_match_route, is_mailet_route, is_matcher, is_step, outgoing_of}
use Rattle.mj_config_walk.specs.Values.{required, text}
use Rattle.mj_config_walk.specs.Walk.{match_route_of, match_route, mailet_route_of, mailet_route, needed, matcher_in, mailet_in, routes_in, work_in, step_of, deliveries, steps_from}
use Rattle.mj_config_sound.proofs.Holds.{Holds, ok, bind, skip, choose, optional_of, located_of, after}
use Rattle.mj_config_sound.proofs.Fresh.{are_new}
use Rattle.mj_config_sound.proofs.SoundMatchers.{matcher_of}
use Rattle.mj_config_sound.proofs.SoundMailets.{IsNew, mailet_of_of, target_of}

-- a step of its form, whose remote delivery has a new name
pub record IsNewStep (names taken : List (List ℕ)) (step : Step) : Type 0 where
  pub formed : is_step names step ≡ true
  pub new : option_map_or (λ s. not (list_any (bytes_eq s) taken)) (outgoing_of step.mailet) true ≡ true

-- and several of them
pub record AreNewSteps (names taken : List (List ℕ)) (count : ℕ) (steps : List Step) : Type 0 where
  pub long : length steps ≡ count
  pub formed : list_all (is_step names) steps ≡ true
  pub new : are_new taken (deliveries steps) ≡ true

match_route_of_of : (names : List (List ℕ)) (s : List ℕ) → Holds (λ route. is_match_route names route ≡ true) (match_route_of names s)
match_route_of_of names s =
    choose (bytes_eq s (codes "nomatch")) (ok on_match.NoMatch refl)
    (choose (bytes_eq s (codes "matchall")) (ok on_match.MatchAll refl)
    (bind (target_of names s) (λ state h. ok (on_match.To state) h)))

mailet_route_of_of : (names : List (List ℕ)) (s : List ℕ) → Holds (λ route. is_mailet_route names route ≡ true) (mailet_route_of names s)
mailet_route_of_of names s =
    choose (bytes_eq s (codes "ignore")) (ok on_mailet.Ignore refl)
    (bind (target_of names s) (λ state h. ok (on_mailet.To state) h))

default_match : (names : List (List ℕ)) → list_any (bytes_eq (codes "error")) names ≡ true → is_match_route names (on_match.To (codes "error")) ≡ true
default_match names h = h

default_mailet : (names : List (List ℕ)) → list_any (bytes_eq (codes "error")) names ≡ true → is_mailet_route names (on_mailet.To (codes "error")) ≡ true
default_mailet names h = h

-- where a mail goes where a step fails is there
record AreRoutes (names : List (List ℕ)) (routes : MatchRoute × MailetRoute) : Type 0 where
  on_match : is_match_route names routes.0 ≡ true
  on_mailet : is_mailet_route names routes.1 ≡ true

-- its mailet and its routes have their forms
record IsWork (names taken : List (List ℕ)) (work : MailetKind × (MatchRoute × MailetRoute)) : Type 0 where
  mailet : IsNew names taken work.0
  routes : AreRoutes names work.1

formed_step : (names taken : List (List ℕ)) (matches : MatchExpr) (work : MailetKind × (MatchRoute × MailetRoute)) → is_matcher matches ≡ true → IsWork names taken work
    → IsNewStep names taken (record { matcher = matches; on_match = work.1.0; mailet = work.0; on_mailet = work.1.1 })
formed_step names taken matches work a b = record { formed = rw (a, b.routes.on_match, b.mailet.formed, b.routes.on_mailet); new = b.mailet.new }

matcher_in_of : (step : Members) → Holds (λ matches. is_matcher matches ≡ true) (matcher_in step)
matcher_in_of step = skip (required (codes "match") step) matcher_of

mailet_in_of : (names taken : List (List ℕ)) (step : Members) → members_are_sorted step ≡ true → Holds (IsNew names taken) (mailet_in names taken step)
mailet_in_of names taken step sorted = skip (needed (codes "class") text step) (λ class. mailet_of_of names taken class step sorted)

module _ (names : List (List ℕ)) (error : list_any (bytes_eq (codes "error")) names ≡ true) where
  routes_in_of : (step : Members) → Holds (AreRoutes names) (routes_in names step)
  routes_in_of step =
      bind (optional_of {Q = λ route. is_match_route names route ≡ true} (on_match.To (codes "error")) (match_route names) (get_member (codes "onMatchException") step)
      (default_match names error) (λ value. skip (text value) (λ s. match_route_of_of names s))) (λ unmatched a.
      bind (optional_of {Q = λ route. is_mailet_route names route ≡ true} (on_mailet.To (codes "error")) (mailet_route names) (get_member (codes "onMailetException") step)
      (default_mailet names error) (λ value. skip (text value) (λ s. mailet_route_of_of names s))) (λ undone b.
      ok (unmatched, undone) (record { on_match = a; on_mailet = b })))

  work_in_of : (taken : List (List ℕ)) (step : Members) → members_are_sorted step ≡ true → Holds (IsWork names taken) (work_in names taken step)
  work_in_of taken step sorted =
      bind (mailet_in_of names taken step sorted) (λ mailet a.
      bind (routes_in_of step) (λ routes b.
      ok (mailet, routes) (record { mailet = a; routes = b })))

  step_of_of : (taken : List (List ℕ)) (step : Members) → members_are_sorted step ≡ true → Holds (IsNewStep names taken) (step_of names taken step)
  step_of_of taken step sorted =
      bind (matcher_in_of step) (λ matches a.
      bind (work_in_of taken step sorted) (λ work b.
      ok (record { matcher = matches; on_match = work.1.0; mailet = work.0; on_mailet = work.1.1 }) (formed_step names taken matches work a b)))

  new_more : (taken rest : List (List ℕ)) (name : Option (List ℕ)) → option_map_or (λ s. not (list_any (bytes_eq s) taken)) name true ≡ true
      → are_new (taken ++ cons_option name []) rest ≡ true → are_new taken (cons_option name rest) ≡ true
  new_more taken rest None h k = ap (λ all. are_new all rest) (sym (append-nil taken)) ∙ k
  new_more taken rest (Some name) h k = rw (h, k)

  steps_more : (taken : List (List ℕ)) (first : Members) (rest : List Members) (step : Step) (steps : List Step) → IsNewStep names taken step
      → AreNewSteps names (taken ++ deliveries (step ∷ [])) (length rest) steps → AreNewSteps names taken (length (first ∷ rest)) (step ∷ steps)
  steps_more taken first rest step steps h k = record {
    long = omega (arith, k.long);
    formed = rw (h.formed, k.formed);
    new = new_more taken (deliveries steps) (outgoing_of step.mailet) h.new k.new;
  }

  pub steps_of : (taken : List (List ℕ)) (processor place : ℕ) (tables : List Members) → list_all members_are_sorted tables ≡ true
      → Holds (AreNewSteps names taken (length tables)) (steps_from names taken processor place tables)
  steps_of taken processor place [] sorted = ok [] (record { long = refl; formed = refl; new = refl })
  steps_of taken processor place (first ∷ rest) sorted =
      let parts = and_parts (members_are_sorted first) (list_all members_are_sorted rest) sorted in
      after (located_of processor place (step_of_of taken first parts.0)) (λ step h.
      after (steps_of (taken ++ deliveries (step ∷ [])) processor (place + 1) rest parts.1) (λ steps k.
      ok (step ∷ steps) (steps_more taken first rest step steps h k)))
