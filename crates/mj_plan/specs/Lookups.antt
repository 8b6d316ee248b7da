-- What a plan has under a name. Names are compared byte for byte.
use Rattle.std.specs.Prelude.{ℕ, if◌then◌else◌, List, [], ◌∷◌, Option, Some, None}
use Rattle.std.specs.List.{find}
use Rattle.std.specs.Option.{option_map}
use Rattle.std.specs.Str.{bytes_eq}
use Rattle.mj_plan.specs.declared.plan.Processor.{Processor}
use Rattle.mj_plan.specs.declared.plan.Step.{Step}
use Rattle.mj_plan.specs.declared.mailet.MailetKind.{MailetKind}
use Rattle.mj_plan.specs.declared.mailet.MailetKind.TheVariants.{RemoteDelivery}

-- the first processor of this name
abbrev pub processor_named : List ℕ → List Processor → Option Processor
processor_named name processors = find (λ processor. bytes_eq processor.name name) processors

-- a remote delivery: the delays between its attempts, and the processor to which it sends what it couldn't deliver, if it
-- names one
abbrev pub Delivery : Type 0
Delivery = List ℕ × Option (List ℕ)

-- the remote delivery that a mailet is, if it is the one of this name
abbrev pub delivery_of : List ℕ → MailetKind → Option Delivery
delivery_of name (RemoteDelivery outgoing schedule gateway bounce_processor) = if bytes_eq outgoing name then Some (schedule, bounce_processor) else None
delivery_of name mailet = None

-- the first of the two that is there
abbrev pub or_else : {X : Type 0} → Option X → Option X → Option X
or_else None other = other
or_else (Some x) other = Some x

-- the first remote delivery of this name: in these steps, and in these processors
abbrev pub delivery_in : List ℕ → List Step → Option Delivery
delivery_in name [] = None
delivery_in name (step ∷ steps) = or_else (delivery_of name step.mailet) (delivery_in name steps)

abbrev pub delivery_named : List ℕ → List Processor → Option Delivery
delivery_named name [] = None
delivery_named name (processor ∷ processors) = or_else (delivery_in name processor.steps) (delivery_named name processors)

-- the schedule of that remote delivery
abbrev pub schedule_named : List ℕ → List Processor → Option (List ℕ)
schedule_named name processors = option_map (λ delivery. delivery.0) (delivery_named name processors)
