-- What holds of each value that a reading gives.
use Rattle.std.proofs.Common.{◌≡◌, ℕ, Bool, true, false, List, [], ◌∷◌, length, Option, Some, None, Result, Ok, Err, refl, subst, arith}
use Rattle.std.specs.Prelude.{if◌then◌else◌}
use Rattle.std.specs.List.{list_all}
use Rattle.std.specs.Option.{option_map_or}
use Rattle.toml.specs.Data.{Data, Items, no_items, item}
use Rattle.mj_config_walk.specs.declared.fault.PlanKind.{PlanKind}
use Rattle.mj_config_walk.specs.declared.fault.PlanKind.TheVariants.{BadArgument}
use Rattle.mj_config_walk.specs.declared.fault.PlanFault.{PlanFault}
use Rattle.mj_config_walk.specs.declared.fault.PlanFault.TheVariants.{Refused}
use Rattle.mj_terms.specs.Answers.{◌>>=◌}
use Rattle.mj_config_walk.specs.Walk.{located}
use Rattle.mj_config_walk.specs.Values.{checked, some_or, optional, maybe, text, formed, each, each_text}

-- each value that the reading gives has this property
pub record Holds {X E : Type 0} (Q : X → Type 0) (r : Result X E) : Type 0 where
  pub of : (x : X) → r ≡ Ok x → Q x

same_ok : {X E : Type 0} (x y : X) → ◌≡◌ {A = Result X E} (Ok x) (Ok y) → x ≡ y
same_ok x y e = cc

pub ok : {X E : Type 0} {Q : X → Type 0} (x : X) → Q x → Holds {E = E} Q (Ok x)
ok {Q} x h = record { of = λ y e. subst Q (same_ok x y e) h }

pub err : {X E : Type 0} {Q : X → Type 0} (k : E) → Holds Q (Err k)
err k = record { of = λ y e. absurd cc }

-- of any reading
pub any : {X E : Type 0} (r : Result X E) → Holds (λ _. Unit {0}) r
any r = record { of = λ x e. tt }

pub weaken : {X E : Type 0} {P Q : X → Type 0} {r : Result X E} → ((x : X) → P x → Q x) → Holds P r → Holds Q r
weaken w h = record { of = λ x e. w x (h.of x e) }

-- one reading after the other
pub bind : {A B E : Type 0} {P : A → Type 0} {Q : B → Type 0} {r : Result A E} {next : A → Result B E} → Holds P r → ((x : A) → P x → Holds Q (next x)) → Holds Q (r >>= next)
bind {r = Ok x} h k = k x (h.of x refl)
bind {r = Err kind} h k = err kind

-- where nothing of the first value matters
pub skip : {A B : Type 0} {Q : B → Type 0} (r : Result A PlanKind) {next : A → Result B PlanKind} → ((x : A) → Holds Q (next x)) → Holds Q (r >>= next)
skip (Ok x) k = k x
skip (Err kind) k = err kind

pub choose : {X E : Type 0} {Q : X → Type 0} (b : Bool) {r s : Result X E} → Holds Q r → Holds Q s → Holds Q (if b then r else s)
choose true h k = h
choose false h k = k

pub checks : {X : Type 0} {Q : X → Type 0} (good : Bool) (kind : PlanKind) (x : X) → (good ≡ true → Q x) → Holds Q (checked good kind x)
checks true kind x h = ok x (h refl)
checks false kind x h = err kind

pub some : {X : Type 0} {Q : X → Type 0} (kind : PlanKind) (o : Option X) → ((x : X) → o ≡ Some x → Q x) → Holds Q (some_or kind o)
some kind None h = err kind
some kind (Some x) h = ok x (h x refl)

pub form_of : (form : List ℕ → Bool) (s : List ℕ) → Holds (λ s. form s ≡ true) (formed form s)
form_of form s = checks (form s) BadArgument s (λ h. h)

pub optional_of : {X : Type 0} {Q : X → Type 0} (default : X) (form : Data → Result X PlanKind) (value : Option Data) → Q default → ((d : Data) → Holds Q (form d)) → Holds Q (optional default form value)
optional_of default form None h k = ok default h
optional_of default form (Some d) h k = k d

pub maybe_of : {X : Type 0} (p : X → Bool) (form : Data → Result X PlanKind) (value : Option Data) → ((d : Data) → Holds (λ x. p x ≡ true) (form d)) → Holds (λ o. option_map_or p o true ≡ true) (maybe form value)
maybe_of p form None k = ok None refl
maybe_of p form (Some d) k = bind (k d) (λ x h. ok (Some x) h)

-- each has the property that each single one has
pub each_of : {A X : Type 0} (p : X → Bool) (form : A → Result X PlanKind) → ((s : A) → Holds (λ x. p x ≡ true) (form s)) → (ss : List A) → Holds (λ xs. list_all p xs ≡ true) (each form ss)
each_of p form k [] = ok [] refl
each_of p form k (s ∷ ss) = bind (k s) (λ x h. bind (each_of p form k ss) (λ xs all. ok (x ∷ xs) (rw (h, all))))

pub each_text_of : {X : Type 0} (p : X → Bool) (form : List ℕ → Result X PlanKind) → ((s : List ℕ) → Holds (λ x. p x ≡ true) (form s)) → (ss : Items) → Holds (λ xs. list_all p xs ≡ true) (each_text form ss)
each_text_of p form k no_items = ok [] refl
each_text_of p form k (item value ss) =
    skip (text value) (λ s. bind (k s) (λ x h. bind (each_text_of p form k ss) (λ xs all. ok (x ∷ xs) (rw (h, all)))))

pub both : {X E : Type 0} {P Q : X → Type 0} {r : Result X E} → Holds P r → Holds Q r → Holds (λ x. P x × Q x) r
both h k = record { of = λ x e. (h.of x e, k.of x e) }

-- and there are as many as there are texts
pub each_long : {A X : Type 0} (form : A → Result X PlanKind) (ss : List A) → Holds (λ xs. length xs ≡ length ss) (each form ss)
each_long form [] = ok [] refl
each_long form (s ∷ ss) = skip (form s) (λ x. bind (each_long form ss) (λ xs long. ok (x ∷ xs) (omega arith)))

-- ---- With places

pub located_of : {X : Type 0} {Q : X → Type 0} (processor step : ℕ) {r : Result X PlanKind} → Holds Q r → Holds Q (located processor step r)
located_of processor step {r = Ok x} h = ok x (h.of x refl)
located_of processor step {r = Err kind} h = err (Refused kind processor step)

pub after : {A B : Type 0} {P : A → Type 0} {Q : B → Type 0} {r : Result A PlanFault} {next : A → Result B PlanFault} → Holds P r → ((x : A) → P x → Holds Q (next x)) → Holds Q (r >>= next)
after {r = Ok x} h k = k x (h.of x refl)
after {r = Err fault} h k = err fault
