-- The steps of a sound plan.
use Rattle.std.proofs.Common.{◌≡◌, ℕ, zero, suc, Bool, true, List, [], ◌∷◌, Some, arith}
use Rattle.std.specs.Prelude.{slice_get}
use Rattle.std.specs.List.{list_all}
use Rattle.std.proofs.lemmas.Bool.{and_parts}
use Rattle.mj_plan.specs.declared.plan.Plan.{Plan}
use Rattle.mj_plan.specs.declared.plan.Processor.{Processor}
use Rattle.mj_plan.specs.declared.plan.Step.{Step}
use Rattle.mj_plan.specs.Sound.{IsSound, is_matcher, is_processor, is_step, names_of}

all_get : {X : Type 0} (test : X → Bool) (xs : List X) (k : ℕ) (x : X) → list_all test xs ≡ true → Some x ≡ slice_get xs k → test x ≡ true
all_get test [] k x all is = absurd cc
all_get test (y ∷ xs) zero x all is = let e : x ≡ y = cc in rw e (and_parts (test y) (list_all test xs) all).0
all_get test (y ∷ xs) (suc k) x all is = all_get test xs k x (and_parts (test y) (list_all test xs) all).1 is

pub in_sound_plan : (plan : Plan) (processor : Processor) (step : Step) (k : ℕ) → IsSound plan → Some processor ≡ slice_get plan.processors 0 → Some step ≡ slice_get processor.steps k → is_matcher step.matcher ≡ true
in_sound_plan plan processor step k sound first is =
    let taken : is_processor (names_of plan.processors) processor ≡ true = all_get (is_processor (names_of plan.processors)) plan.processors 0 processor sound.processors first in
    let steps : list_all (is_step (names_of plan.processors)) processor.steps ≡ true = grind arith in
    let one : is_step (names_of plan.processors) step ≡ true = all_get (is_step (names_of plan.processors)) processor.steps k step steps is in
    grind arith
