-- The walk through a configuration, place by place and key by key: the plan, or the first fault.
use Rattle.std.specs.Prelude.{ℕ, ◌+◌, nat_le, Bool, not, if◌then◌else◌, List, [], ◌∷◌, ◌++◌, length, map, codes, Option, Some, None, Result, Ok, Err}
use Rattle.std.specs.List.{list_any, filter_map}
use Rattle.std.specs.Str.{bytes_eq, is_utf8}
use Rattle.mj_terms.specs.Answers.{◌>>=◌, GivesBy}
use Rattle.mj_terms.specs.Limits.{within}
use Rattle.toml.specs.Data.{Data, Items, Members, no_members, table, get_member}
use Rattle.toml.specs.Parse.{parse_document}
use Rattle.mj_plan.specs.declared.mailet.MailetKind.{MailetKind}
use Rattle.mj_plan.specs.declared.matcher.MatchExpr.{MatchExpr}
use Rattle.mj_plan.specs.declared.plan.MailetRoute.{MailetRoute}
use Rattle.mj_plan.specs.declared.plan.MailetRoute.TheVariants as on_mailet
use Rattle.mj_plan.specs.declared.plan.Mapping.{Mapping}
use Rattle.mj_plan.specs.declared.plan.Mapping.TheVariants as mapping
use Rattle.mj_plan.specs.declared.plan.MatchRoute.{MatchRoute}
use Rattle.mj_plan.specs.declared.plan.MatchRoute.TheVariants as on_match
use Rattle.mj_plan.specs.declared.plan.Plan.{Plan}
use Rattle.mj_plan.specs.declared.plan.Processor.{Processor}
use Rattle.mj_plan.specs.declared.plan.Step.{Step}
use Rattle.mj_plan.specs.Forms.{is_line, is_processor_name}
use Rattle.mj_plan.specs.Sound.{is_reserved, outgoing_of}
use Rattle.mj_config_walk.specs.declared.fault.PlanFault.{PlanFault}
use Rattle.mj_config_walk.specs.declared.fault.PlanFault.TheVariants.{Refused, Memory}
use Rattle.mj_config_walk.specs.declared.fault.PlanKind.{PlanKind}
use Rattle.mj_config_walk.specs.declared.fault.PlanKind.TheVariants.{TooLarge, NotToml, Missing, WrongType, NoRoot, NoError, Twice, ReservedState, BadArgument, TooMany}
use Rattle.mj_config_walk.specs.declared.spool.Spool.{Spool}
use Rattle.mj_config_walk.specs.Values.{required, optional, checked, text, texts, tables, number, moment, address, domain, domain_value, local_part, formed, target, each, each_text}
use Rattle.mj_config_walk.specs.Matchers.{matcher}
use Rattle.mj_config_walk.specs.Classes.{mailet_of}

-- ---- [spool]

-- the table at a key of the document; a missing one has no keys
abbrev pub table_or_none : Option Data → Result Members PlanKind
table_or_none None = Ok no_members
table_or_none (Some (table members)) = Ok members
table_or_none (Some other) = Err WrongType

abbrev pub address_value : Data → Result (List ℕ × List ℕ) PlanKind
address_value value = do
  s ← text value
  address s

abbrev pub moment_value : Data → Result ℕ PlanKind
moment_value value = do
  s ← text value
  moment s

abbrev pub each_value : {X : Type 0} → (List ℕ → Result X PlanKind) → Data → Result (List X) PlanKind
each_value form value = do
  items ← texts value
  each_text form items

-- a key that has to be there, with a value of this form
abbrev pub needed : {X : Type 0} → List ℕ → (Data → Result X PlanKind) → Members → Result X PlanKind
needed key form members = do
  value ← required key members
  form value

-- who the service is: its host and its postmaster
abbrev pub owner_in : Members → Result (List ℕ × (List ℕ × List ℕ)) PlanKind
owner_in members = do
  host_name ← needed (codes "host_name") domain_value members
  postmaster ← needed (codes "postmaster") address_value members
  Ok (host_name, postmaster)

-- whom it delivers to: its hosts and its users
abbrev pub locals_in : Members → Result (List (List ℕ) × List (List ℕ)) PlanKind
locals_in members = do
  local_hosts ← needed (codes "local_hosts") (each_value domain) members
  local_users ← needed (codes "local_users") (each_value local_part) members
  Ok (local_hosts, local_users)

-- when its clock starts, and at how many hops a mail has looped
abbrev pub bounds_in : Members → Result (ℕ × ℕ) PlanKind
bounds_in members = do
  start ← needed (codes "start") moment_value members
  max_hops ← optional 100 (number 1 1_000) (get_member (codes "max_hops") members)
  Ok (start, max_hops)

-- its keys in this order
abbrev pub spool_of : Members → Result Spool PlanKind
spool_of members = do
  owner ← owner_in members
  served ← locals_in members
  bounds ← bounds_in members
  Ok (record { host_name = owner.0; postmaster = owner.1; local_hosts = served.0; local_users = served.1; start = bounds.0; max_hops = bounds.1 })

-- ---- [[rewrite]]

-- an array of at most so many tables; a missing one has none
abbrev pub few_tables : ℕ → Data → Result (List Members) PlanKind
few_tables most value = do
  all ← tables value
  checked (nat_le (length all) most) TooMany all

abbrev pub tables_or_none : ℕ → Option Data → Result (List Members) PlanKind
tables_or_none most None = Ok []
tables_or_none most (Some value) = few_tables most value

-- a row has the first of the three forms whose two keys it has; its types are judged first, then its addresses
abbrev pub targets : Items → Result (List (List ℕ × List ℕ)) PlanKind
targets to = do
  to ← each_text address to
  to ← checked (nat_le (length to) 100) TooMany to
  checked (nat_le 1 (length to)) BadArgument to

abbrev pub addresses_row : Data → Data → Result Mapping PlanKind
addresses_row from to = do
  from ← text from
  to ← texts to
  from ← address from
  to ← targets to
  Ok (mapping.Addresses from to)

abbrev pub error_row : Data → Data → Result Mapping PlanKind
error_row from error = do
  from ← text from
  error ← text error
  from ← address from
  error ← formed is_line error
  Ok (mapping.Error from error)

abbrev pub host_row : Data → Data → Result Mapping PlanKind
host_row from to = do
  from ← text from
  to ← text to
  from ← domain from
  to ← domain to
  Ok (mapping.Host from to)

abbrev pub host_row_or_none : Option Data → Option Data → Result Mapping PlanKind
host_row_or_none (Some from) (Some to) = host_row from to
host_row_or_none from to = Err Missing

abbrev pub row_with : Option Data → Option Data → Option Data → Result Mapping PlanKind → Result Mapping PlanKind
row_with (Some from) (Some to) error other = addresses_row from to
row_with (Some from) None (Some error) other = error_row from error
row_with from to error other = other

abbrev pub mapping_of : Members → Result Mapping PlanKind
mapping_of row = row_with (get_member (codes "from") row) (get_member (codes "to") row) (get_member (codes "error") row)
    (host_row_or_none (get_member (codes "domain") row) (get_member (codes "to_domain") row))

abbrev pub rewrite_of : Option Data → Result (List Mapping) PlanKind
rewrite_of value = do
  rows ← tables_or_none 1_000 value
  each mapping_of rows

-- ---- [[processor]]

-- the name of a processor and the tables of its steps
pub record Header : Type 0 where
  pub name : List ℕ
  pub steps : List Members

-- a name that no processor before has
abbrev pub new_name : List (List ℕ) → Data → Result (List ℕ) PlanKind
new_name earlier value = do
  name ← text value
  name ← formed is_processor_name name
  name ← checked (not (is_reserved name)) ReservedState name
  checked (not (list_any (bytes_eq name) earlier)) Twice name

abbrev pub header_of : List (List ℕ) → Members → Result Header PlanKind
header_of earlier processor = do
  name ← required (codes "name") processor
  name ← new_name earlier name
  steps ← tables_or_none 200 (get_member (codes "step") processor)
  Ok (record { name = name; steps = steps })

-- ---- [[processor.step]]

-- a failure goes on, or to a processor
abbrev pub route_to : {R : Type 0} → (List ℕ → R) → List (List ℕ) → List ℕ → Result R PlanKind
route_to to names s = do
  state ← target names s
  Ok (to state)

abbrev pub match_route_of : List (List ℕ) → List ℕ → Result MatchRoute PlanKind
match_route_of names s =
    if bytes_eq s (codes "nomatch") then Ok on_match.NoMatch
    else (if bytes_eq s (codes "matchall") then Ok on_match.MatchAll else route_to on_match.To names s)

abbrev pub match_route : List (List ℕ) → Data → Result MatchRoute PlanKind
match_route names value = do
  s ← text value
  match_route_of names s

abbrev pub mailet_route_of : List (List ℕ) → List ℕ → Result MailetRoute PlanKind
mailet_route_of names s = if bytes_eq s (codes "ignore") then Ok on_mailet.Ignore else route_to on_mailet.To names s

abbrev pub mailet_route : List (List ℕ) → Data → Result MailetRoute PlanKind
mailet_route names value = do
  s ← text value
  mailet_route_of names s

-- what fails goes to `error` where nothing else is said
abbrev pub default_match_route : MatchRoute
default_match_route = on_match.To (codes "error")

abbrev pub default_mailet_route : MailetRoute
default_mailet_route = on_mailet.To (codes "error")

-- what mails a step takes
abbrev pub matcher_in : Members → Result MatchExpr PlanKind
matcher_in step = needed (codes "match") matcher step

-- what it does with them, where these names of remote deliveries are taken
abbrev pub mailet_in : List (List ℕ) → List (List ℕ) → Members → Result MailetKind PlanKind
mailet_in names taken step = do
  class ← needed (codes "class") text step
  mailet_of names taken class step

-- where they go where one of the two fails
abbrev pub routes_in : List (List ℕ) → Members → Result (MatchRoute × MailetRoute) PlanKind
routes_in names step = do
  on_match ← optional default_match_route (match_route names) (get_member (codes "onMatchException") step)
  on_mailet ← optional default_mailet_route (mailet_route names) (get_member (codes "onMailetException") step)
  Ok (on_match, on_mailet)

-- its mailet, and then its routes
abbrev pub work_in : List (List ℕ) → List (List ℕ) → Members → Result (MailetKind × (MatchRoute × MailetRoute)) PlanKind
work_in names taken step = do
  mailet ← mailet_in names taken step
  routes ← routes_in names step
  Ok (mailet, routes)

-- a step of a plan with these processors, where these names of remote deliveries are taken
abbrev pub step_of : List (List ℕ) → List (List ℕ) → Members → Result Step PlanKind
step_of names taken step = do
  matches ← matcher_in step
  work ← work_in names taken step
  Ok (record { matcher = matches; on_match = work.1.0; mailet = work.0; on_mailet = work.1.1 })

-- ---- Places

-- the fault at this step of this processor
abbrev pub located : {X : Type 0} → ℕ → ℕ → Result X PlanKind → Result X PlanFault
located processor step (Ok x) = Ok x
located processor step (Err kind) = Err (Refused kind processor step)

-- the headers of the processors from this number on, where these names stand before
abbrev pub headers_from : ℕ → List (List ℕ) → List Members → Result (List Header) PlanFault
headers_from place earlier [] = Ok []
headers_from place earlier (processor ∷ rest) =
    located place 0 (header_of earlier processor) >>= λ header.
    headers_from (place + 1) (earlier ++ header.name ∷ []) rest >>= λ headers.
    Ok (header ∷ headers)

-- the names of the remote deliveries of these steps
abbrev pub deliveries : List Step → List (List ℕ)
deliveries steps = filter_map (λ step. outgoing_of step.mailet) steps

-- the steps of a processor from this number on
abbrev pub steps_from : List (List ℕ) → List (List ℕ) → ℕ → ℕ → List Members → Result (List Step) PlanFault
steps_from names taken processor place [] = Ok []
steps_from names taken processor place (first ∷ rest) =
    located processor place (step_of names taken first) >>= λ step.
    steps_from names (taken ++ deliveries (step ∷ [])) processor (place + 1) rest >>= λ steps.
    Ok (step ∷ steps)

-- the processors from this number on
abbrev pub processors_from : List (List ℕ) → List (List ℕ) → ℕ → List Header → Result (List Processor) PlanFault
processors_from names taken place [] = Ok []
processors_from names taken place (header ∷ rest) =
    steps_from names taken place 1 header.steps >>= λ steps.
    processors_from names (taken ++ deliveries steps) (place + 1) rest >>= λ processors.
    Ok (record { name = header.name; steps = steps } ∷ processors)

-- there are the two processors that each plan has
abbrev pub has_name : List ℕ → List (List ℕ) → Bool
has_name name names = list_any (bytes_eq name) names

abbrev pub names_of : List Header → List (List ℕ)
names_of headers = map (λ header. header.name) headers

abbrev pub processors_of : List Header → Result (List Processor) PlanFault
processors_of headers =
    if not (has_name (codes "root") (names_of headers)) then Err (Refused NoRoot 0 0)
    else (if not (has_name (codes "error") (names_of headers)) then Err (Refused NoError 0 0)
    else processors_from (names_of headers) [] 1 headers)

-- ---- The whole

abbrev pub spool_in : Option Data → Result Spool PlanKind
spool_in value = table_or_none value >>= spool_of

-- the processors: their headers first, and then their steps
abbrev pub processors_in : Option Data → Result (List Processor) PlanFault
processors_in value =
    located 0 0 (tables_or_none 100 value) >>= λ tables.
    headers_from 1 [] tables >>= processors_of

abbrev pub plan_of : Spool → List Mapping → List Processor → Plan
plan_of spool mappings processors = record {
  host_name = spool.host_name;
  postmaster = spool.postmaster;
  local_hosts = spool.local_hosts;
  local_users = spool.local_users;
  start = spool.start;
  max_hops = spool.max_hops;
  mappings = mappings;
  processors = processors;
}

abbrev pub plan_of_document : Members → Result Plan PlanFault
plan_of_document document =
    located 0 0 (spool_in (get_member (codes "spool") document)) >>= λ spool.
    located 0 0 (rewrite_of (get_member (codes "rewrite") document)) >>= λ mappings.
    processors_in (get_member (codes "processor") document) >>= λ processors.
    Ok (plan_of spool mappings processors)

-- the document that the bytes are
abbrev pub document : List ℕ → Option Members
document bytes = if is_utf8 bytes then parse_document bytes else None

abbrev pub plan_of_text : Option Members → Result Plan PlanFault
plan_of_text None = Err (Refused NotToml 0 0)
plan_of_text (Some members) = plan_of_document members

-- the plan of a configuration that may have so many bytes, or its first fault
abbrev pub plan_within : ℕ → List ℕ → Result Plan PlanFault
plan_within limit bytes = within limit (Err (Refused TooLarge 0 0)) (λ text. plan_of_text (document text)) bytes

-- the same with at most 1,048,576 bytes
unfoldable pub plan : List ℕ → Result Plan PlanFault
plan bytes = plan_within 1_048_576 bytes

-- a fault but want of memory
abbrev pub told_fault : PlanFault → Option PlanFault
told_fault (Refused kind processor step) = Some (Refused kind processor step)
told_fault Memory = None

-- what a call answered, seen so, is what was said, unless memory ran out
abbrev pub AnswersBy : {X Y : Type 0} → (X → Y) → Result X PlanFault → Result Y PlanFault → Type 0
AnswersBy seen answer said = GivesBy told_fault seen answer said

abbrev pub Answers : {X : Type 0} → Result X PlanFault → Result X PlanFault → Type 0
Answers answer said = AnswersBy (λ x. x) answer said
