-- Attributes that are judged as a whole.
use Rattle.std.proofs.Common.{◌≡◌, Bool, true, false, ◌&&◌, if◌then◌else◌, List, [], ◌∷◌, Ok, Err, refl}
use Rattle.std.specs.List.{list_all}
use Rattle.mj_plan.specs.declared.mailet.Named.{Named}
use Rattle.mj_plan.specs.Forms.{is_attribute_name, is_attribute_value}
use Rattle.mj_config_walk.specs.declared.fault.PlanKind.TheVariants.{BadArgument}
use Rattle.mj_terms.specs.Answers.{◌>>=◌}
use Rattle.mj_config_walk.specs.Values.{checked, each}
use Rattle.mj_config_walk.specs.Mailets.{attribute}

both : (good all : Bool) (first : Named) (rest : List Named)
    → (checked good BadArgument first >>= λ f. (if all then Ok rest else Err BadArgument) >>= λ o. Ok (f ∷ o)) ≡ (if good && all then Ok (first ∷ rest) else Err BadArgument)
both true true first rest = refl
both true false first rest = refl
both false all first rest = refl

-- they stay where all have the forms, and else they are refused
pub all_judged : (named : List Named)
    → each attribute named ≡ (if list_all (λ n. is_attribute_name n.name && is_attribute_value n.value) named then Ok named else Err BadArgument)
all_judged [] = refl
all_judged (first ∷ rest) = rw (all_judged rest) (both _ _ first rest)
