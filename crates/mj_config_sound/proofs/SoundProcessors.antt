-- The processors that a document's tables are read to have their forms, and names that are new.
use Rattle.std.proofs.Common.{◌≡◌, ℕ, ◌+◌, Bool, true, false, not, List, [], ◌∷◌, ◌++◌, length, map, Option, Some, None, Err, refl, sym, ap, ◌∙◌, ◌&&◌, arith}
use Rattle.std.specs.Prelude.{if◌then◌else◌, nat_le, codes}
use Rattle.std.proofs.lemmas.Bool.{and_parts}
use Rattle.std.proofs.lemmas.Bool.Decides.{nat_tests}
use Rattle.std.proofs.lemmas.List.{length-map}
use Rattle.std.specs.List.{list_all, list_any}
use Rattle.std.specs.Str.{bytes_eq}
use Rattle.toml.specs.Data.{Data, Members, get_member, is_sorted, members_are_sorted}
use Rattle.mj_plan.specs.declared.plan.Processor.{Processor}
use Rattle.mj_plan.specs.declared.plan.Step.{Step}
use Rattle.mj_plan.specs.Forms.{is_processor_name}
use Rattle.mj_plan.specs.Sound.{are_different, is_reserved, is_processor, names_of, deliveries_of}
use Rattle.mj_config_walk.specs.declared.fault.PlanKind.TheVariants.{Twice, ReservedState, TooMany, NoRoot, NoError}
use Rattle.mj_config_walk.specs.declared.fault.PlanFault.TheVariants.{Refused}
use Rattle.mj_config_walk.specs.Values.{required, text}
use Rattle.mj_config_walk.specs.Walk.{Header, tables_or_none, new_name, header_of, headers_from, deliveries, processors_from, has_name, processors_of}
use Rattle.mj_config_sound.proofs.Holds.{Holds, ok, err, bind, skip, checks, form_of, located_of, after}
use Rattle.mj_config_sound.proofs.Fresh.{are_new, different, joined}
use Rattle.mj_config_sound.proofs.Sorted.{value_sorted, tables_sorted}
use Rattle.mj_config_sound.proofs.SoundSteps.{AreNewSteps, steps_of}

-- ---- Tables

-- at most so many sorted tables
pub record AreTables (most : ℕ) (all : List Members) : Type 0 where
  pub few : nat_le (length all) most ≡ true
  pub sorted : list_all members_are_sorted all ≡ true

none_few : (most : ℕ) → nat_le 0 most ≡ true
none_few most = grind (arith, nat_tests)

tables_or_none_of : (most : ℕ) (value : Option Data) → ((d : Data) → value ≡ Some d → is_sorted d ≡ true) → Holds (AreTables most) (tables_or_none most value)
tables_or_none_of most None h = ok [] (record { few = none_few most; sorted = refl })
tables_or_none_of most (Some value) h =
    bind (tables_sorted value (h value refl)) (λ all sorted. checks (nat_le (length all) most) TooMany all (λ few. record { few = few; sorted = sorted }))

pub tables_at : (most : ℕ) (key : List ℕ) (members : Members) → members_are_sorted members ≡ true → Holds (AreTables most) (tables_or_none most (get_member key members))
tables_at most key members sorted = tables_or_none_of most (get_member key members) (λ d e. value_sorted key members d sorted e)

-- ---- Headers

abbrev is_header : Header → Bool
is_header header =
    (is_processor_name header.name && not (is_reserved header.name)) && (nat_le (length header.steps) 200 && list_all members_are_sorted header.steps)

abbrev header_names : List Header → List (List ℕ)
header_names headers = map (λ header. header.name) headers

record IsNewHeader (earlier : List (List ℕ)) (header : Header) : Type 0 where
  formed : is_header header ≡ true
  new : not (list_any (bytes_eq header.name) earlier) ≡ true

pub record AreNewHeaders (earlier : List (List ℕ)) (count : ℕ) (headers : List Header) : Type 0 where
  pub long : length headers ≡ count
  pub formed : list_all is_header headers ≡ true
  pub new : are_new earlier (header_names headers) ≡ true

-- a name of its form that isn't reserved and isn't there before
abbrev IsNewName : List (List ℕ) → List ℕ → Type 0
IsNewName earlier name = ((is_processor_name name && not (is_reserved name)) ≡ true) × (not (list_any (bytes_eq name) earlier) ≡ true)

new_name_of : (earlier : List (List ℕ)) (value : Data) → Holds (IsNewName earlier) (new_name earlier value)
new_name_of earlier value =
    skip (text value) (λ name.
    bind (form_of is_processor_name name) (λ name a.
    bind (checks {Q = λ name. (is_processor_name name && not (is_reserved name)) ≡ true} (not (is_reserved name)) ReservedState name (λ b. rw (a, b))) (λ name c.
    checks (not (list_any (bytes_eq name) earlier)) Twice name (λ d. (c, d)))))

header_of_of : (earlier : List (List ℕ)) (processor : Members) → members_are_sorted processor ≡ true → Holds (IsNewHeader earlier) (header_of earlier processor)
header_of_of earlier processor sorted =
    skip (required (codes "name") processor) (λ value.
    bind (new_name_of earlier value) (λ name h.
    bind (tables_at 200 (codes "step") processor sorted) (λ steps k.
    ok (record { name = name; steps = steps }) (record { formed = rw (h.0, k.few, k.sorted); new = h.1 }))))

headers_more : (earlier : List (List ℕ)) (first : Members) (rest : List Members) (header : Header) (headers : List Header) → IsNewHeader earlier header
    → AreNewHeaders (earlier ++ header.name ∷ []) (length rest) headers → AreNewHeaders earlier (length (first ∷ rest)) (header ∷ headers)
headers_more earlier first rest header headers h k = record {
  long = omega (arith, k.long);
  formed = rw (h.formed, k.formed);
  new = rw (h.new, k.new);
}

pub headers_of : (place : ℕ) (earlier : List (List ℕ)) (tables : List Members) → list_all members_are_sorted tables ≡ true
    → Holds (AreNewHeaders earlier (length tables)) (headers_from place earlier tables)
headers_of place earlier [] sorted = ok [] (record { long = refl; formed = refl; new = refl })
headers_of place earlier (first ∷ rest) sorted =
    let parts = and_parts (members_are_sorted first) (list_all members_are_sorted rest) sorted in
    after (located_of place 0 (header_of_of earlier first parts.0)) (λ header h.
    after (headers_of (place + 1) (earlier ++ header.name ∷ []) rest parts.1) (λ headers k.
    ok (header ∷ headers) (headers_more earlier first rest header headers h k)))

-- ---- Processors

pub record AreProcessors (names taken : List (List ℕ)) (headers : List Header) (processors : List Processor) : Type 0 where
  pub named : names_of processors ≡ header_names headers
  pub formed : list_all (is_processor names) processors ≡ true
  pub new : are_new taken (deliveries_of processors) ≡ true

formed_processor : (names taken : List (List ℕ)) (header : Header) (steps : List Step) → is_header header ≡ true → AreNewSteps names taken (length header.steps) steps
    → is_processor names (record { name = header.name; steps = steps }) ≡ true
formed_processor names taken header steps h k =
    let parts = and_parts (is_processor_name header.name && not (is_reserved header.name)) (nat_le (length header.steps) 200 && list_all members_are_sorted header.steps) h in
    let few = and_parts (nat_le (length header.steps) 200) (list_all members_are_sorted header.steps) parts.1 in
    let short : nat_le (length steps) 200 ≡ true = ap (λ n. nat_le n 200) k.long ∙ few.0 in
    rw (parts.0, short, k.formed)

processors_more : (names taken : List (List ℕ)) (header : Header) (rest : List Header) (steps : List Step) (processors : List Processor)
    → is_header header ≡ true → AreNewSteps names taken (length header.steps) steps → AreProcessors names (taken ++ deliveries steps) rest processors
    → AreProcessors names taken (header ∷ rest) (record { name = header.name; steps = steps } ∷ processors)
processors_more names taken header rest steps processors h k more = record {
  named = ap (λ all. header.name ∷ all) more.named;
  formed = rw (formed_processor names taken header steps h k, more.formed);
  new = joined taken (deliveries steps) (deliveries_of processors) k.new more.new;
}

steps_sorted : (header : Header) → is_header header ≡ true → list_all members_are_sorted header.steps ≡ true
steps_sorted header h =
    let parts = and_parts (is_processor_name header.name && not (is_reserved header.name)) (nat_le (length header.steps) 200 && list_all members_are_sorted header.steps) h in
    (and_parts (nat_le (length header.steps) 200) (list_all members_are_sorted header.steps) parts.1).1

processors_from_of : (names : List (List ℕ)) → list_any (bytes_eq (codes "error")) names ≡ true → (taken : List (List ℕ)) (place : ℕ) (headers : List Header) → list_all is_header headers ≡ true
    → Holds (AreProcessors names taken headers) (processors_from names taken place headers)
processors_from_of names error taken place [] formed = ok [] (record { named = refl; formed = refl; new = refl })
processors_from_of names error taken place (header ∷ rest) formed =
    let parts = and_parts (is_header header) (list_all is_header rest) formed in
    after (steps_of names error taken place 1 header.steps (steps_sorted header parts.0)) (λ steps k.
    after (processors_from_of names error (taken ++ deliveries steps) (place + 1) rest parts.1) (λ processors more.
    ok (record { name = header.name; steps = steps } ∷ processors) (processors_more names taken header rest steps processors parts.0 k more)))

-- ---- All processors

pub record AreSound (count : ℕ) (processors : List Processor) : Type 0 where
  pub long : length processors ≡ count
  pub names : are_different (names_of processors) ≡ true
  pub root : list_any (bytes_eq (codes "root")) (names_of processors) ≡ true
  pub error : list_any (bytes_eq (codes "error")) (names_of processors) ≡ true
  pub formed : list_all (is_processor (names_of processors)) processors ≡ true
  pub deliveries : are_different (deliveries_of processors) ≡ true

all_sound : (count : ℕ) (headers : List Header) (processors : List Processor) → AreNewHeaders [] count headers → AreProcessors (header_names headers) [] headers processors
    → has_name (codes "root") (header_names headers) ≡ true → has_name (codes "error") (header_names headers) ≡ true → AreSound count processors
all_sound count headers processors h k root error =
    let same : names_of processors ≡ header_names headers = k.named in
    let lengths : length (names_of processors) ≡ length (header_names headers) = ap length same in
    record {
      long = sym (length-map processors (λ p. p.name)) ∙ lengths ∙ length-map headers (λ header. header.name) ∙ h.long;
      names = ap are_different same ∙ different [] (header_names headers) h.new;
      root = ap (list_any (bytes_eq (codes "root"))) same ∙ root;
      error = ap (list_any (bytes_eq (codes "error"))) same ∙ error;
      formed = ap (λ names. list_all (is_processor names) processors) same ∙ k.formed;
      deliveries = different [] (deliveries_of processors) k.new;
    }

by_names : (headers : List Header) (root error : Bool) → has_name (codes "root") (header_names headers) ≡ root → has_name (codes "error") (header_names headers) ≡ error
    → (count : ℕ) → AreNewHeaders [] count headers
    → Holds (AreSound count)
    (if not root then Err (Refused NoRoot 0 0)
    else (if not error then Err (Refused NoError 0 0)
    else processors_from (header_names headers) [] 1 headers))
by_names headers false error e f count h = err (Refused NoRoot 0 0)
by_names headers true false e f count h = err (Refused NoError 0 0)
by_names headers true true e f count h =
    record { of = λ processors is. all_sound count headers processors h ((processors_from_of (header_names headers) f [] 1 headers h.formed).of processors is) e f }

pub processors_sound : (count : ℕ) (headers : List Header) → AreNewHeaders [] count headers → Holds (AreSound count) (processors_of headers)
processors_sound count headers h = by_names headers (has_name (codes "root") (header_names headers)) (has_name (codes "error") (header_names headers)) refl refl count h
