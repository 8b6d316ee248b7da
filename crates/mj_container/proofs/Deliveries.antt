-- The remote deliveries of a plan, by their names.
use Rattle.std.proofs.Common.{◌≡◌, ◌∙◌, ℕ, Bool, true, false, List, [], ◌∷◌, ◌++◌, refl, ap, Option, Some, None}
use Rattle.std.specs.Prelude.{◌||◌}
use Rattle.std.specs.List.{cons_option, filter_map, list_all, list_any}
use Rattle.std.specs.Option.{option_map_or}
use Rattle.std.specs.Str.{bytes_eq}
use Rattle.std.proofs.lemmas.Bool.{and_parts, false≢true}
use Rattle.std.proofs.lemmas.List.Folds.{list_any-append}
use Rattle.std.proofs.lemmas.Slice.Eq.{bytes_eq-Decides}
use Rattle.mj_plan.specs.declared.mailet.MailetKind.{MailetKind}
use Rattle.mj_plan.specs.declared.plan.Plan.{Plan}
use Rattle.mj_plan.specs.declared.plan.Processor.{Processor}
use Rattle.mj_plan.specs.declared.plan.Step.{Step}
use Rattle.mj_plan.specs.Lookups.{Delivery, delivery_in, delivery_named, delivery_of, or_else}
use Rattle.mj_plan.specs.Sound.{deliveries_of, outgoing_of}
use Rattle.mj_container.proofs.Facts.{both_true}
use Rattle.mj_container.proofs.Services.{has_delivery}

-- ---- Each remote delivery of a plan is found

-- the name is among these
abbrev is_in : List (List ℕ) → List ℕ → Bool
is_in names name = list_any (bytes_eq name) names

abbrev outgoing_in : List Step → List (List ℕ)
outgoing_in steps = filter_map (λ step. outgoing_of step.mailet) steps

-- what is among these names is among all
abbrev AreAmong : List (List ℕ) → List (List ℕ) → Type 0
AreAmong all names = (name : List ℕ) → is_in names name ≡ true → is_in all name ≡ true

itself : (name : List ℕ) → bytes_eq name name ≡ true
itself name = (bytes_eq-Decides name name).1 refl

or_else_true : (a b : Bool) → b ≡ true → (a || b) ≡ true
or_else_true true b h = refl
or_else_true false b h = h

first_among : (all rest : List (List ℕ)) (found : Option (List ℕ)) → AreAmong all (cons_option found rest) → option_map_or (is_in all) found true ≡ true
first_among all rest None among = refl
first_among all rest (Some name) among = among name (ap (λ b. b || is_in rest name) (itself name))

later_among : (all rest : List (List ℕ)) (found : Option (List ℕ)) → AreAmong all (cons_option found rest) → AreAmong all rest
later_among all rest None among name h = among name h
later_among all rest (Some first) among name h = among name (or_else_true (bytes_eq name first) (is_in rest name) h)

steps_among : (all : List (List ℕ)) (steps : List Step) → AreAmong all (outgoing_in steps)
    → list_all (λ step. option_map_or (is_in all) (outgoing_of step.mailet) true) steps ≡ true
steps_among all [] among = refl
steps_among all (step ∷ steps) among =
    both_true (option_map_or (is_in all) (outgoing_of step.mailet) true) (list_all (λ step. option_map_or (is_in all) (outgoing_of step.mailet) true) steps)
    (first_among all (outgoing_in steps) (outgoing_of step.mailet) among)
    (steps_among all steps (later_among all (outgoing_in steps) (outgoing_of step.mailet) among))

front_true : (a b : Bool) → a ≡ true → (a || b) ≡ true
front_true true b h = refl
front_true false b h = absurd (false≢true h)

processors_among : (all : List (List ℕ)) (processors : List Processor) → AreAmong all (deliveries_of processors)
    → list_all (λ processor. list_all (λ step. option_map_or (is_in all) (outgoing_of step.mailet) true) processor.steps) processors ≡ true
processors_among all [] among = refl
processors_among all (p ∷ processors) among =
    let both : (name : List ℕ) → is_in (outgoing_in p.steps ++ deliveries_of processors) name ≡ (is_in (outgoing_in p.steps) name || is_in (deliveries_of processors) name) =
    λ name. list_any-append (bytes_eq name) (outgoing_in p.steps) (deliveries_of processors)
    in
    both_true (list_all (λ step. option_map_or (is_in all) (outgoing_of step.mailet) true) p.steps)
    (list_all (λ processor. list_all (λ step. option_map_or (is_in all) (outgoing_of step.mailet) true) processor.steps) processors)
    (steps_among all p.steps (λ name h. among name (both name ∙ front_true (is_in (outgoing_in p.steps) name) (is_in (deliveries_of processors) name) h)))
    (processors_among all processors (λ name h. among name (both name ∙ or_else_true (is_in (outgoing_in p.steps) name) (is_in (deliveries_of processors) name) h)))

-- the plan has each remote delivery that its processors name
abbrev pub are_placed : Plan → Processor → Bool
are_placed plan processor = list_all (λ step. has_delivery plan step.mailet) processor.steps

pub all_placed : (plan : Plan) → list_all (are_placed plan) plan.processors ≡ true
all_placed plan = processors_among (deliveries_of plan.processors) plan.processors (λ name h. h)

-- ---- What holds of each remote delivery holds of the one that is found

module _ (test : Delivery → Bool) where
  -- the mailet is no remote delivery, or it passes
  abbrev pub passes : MailetKind → Type 0
  passes kind = (name : List ℕ) (found : Delivery) → delivery_of name kind ≡ Some found → test found ≡ true

  either_passes : (first second : Option Delivery) (found : Delivery) → or_else first second ≡ Some found → (first ≡ Some found → test found ≡ true)
      → (second ≡ Some found → test found ≡ true) → test found ≡ true
  either_passes None second found e a b = b e
  either_passes (Some d) second found e a b = a e

  step_passes : (form : Step → Bool) → ((step : Step) → form step ≡ true → passes step.mailet) → (name : List ℕ) (steps : List Step) (found : Delivery)
      → delivery_in name steps ≡ Some found
      → list_all form steps ≡ true → test found ≡ true
  step_passes form formed name [] found e all = cc
  step_passes form formed name (step ∷ steps) found e all =
      let parts = and_parts (form step) (list_all form steps) all in
      either_passes (delivery_of name step.mailet) (delivery_in name steps) found e (λ here. formed step parts.0 name found here)
      (λ later. step_passes form formed name steps found later parts.1)

  pub delivery_passes : (form : Step → Bool) → ((step : Step) → form step ≡ true → passes step.mailet)
      → (name : List ℕ) (processors : List Processor) (found : Delivery)
      → delivery_named name processors ≡ Some found → list_all (λ processor. list_all form processor.steps) processors ≡ true → test found ≡ true
  delivery_passes form formed name [] found e all = cc
  delivery_passes form formed name (p ∷ processors) found e all =
      let parts = and_parts (list_all form p.steps) (list_all (λ processor. list_all form processor.steps) processors) all in
      either_passes (delivery_in name p.steps) (delivery_named name processors) found e (λ here. step_passes form formed name p.steps found here parts.0)
      (λ later. delivery_passes form formed name processors found later parts.1)
