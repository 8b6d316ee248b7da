-- What the walk through a configuration answers is a sound plan.
use Rattle.std.proofs.Common.{◌≡◌, ℕ, ◌≤◌, Bool, true, false, List, [], length, Option, Some, None, Result, Ok, Err, IfOk, refl, ◌&&◌, arith}
use Rattle.std.specs.Prelude.{if◌then◌else◌, nat_le, nat_lt, codes}
use Rattle.std.proofs.lemmas.Bool.Decides.{nat_tests}
use Rattle.std.specs.List.{list_all}
use Rattle.std.specs.Str.{is_utf8}
use Rattle.toml.specs.Data.{Members, get_member, members_are_sorted}
use Rattle.toml.specs.Parse.{parse_document}
use Rattle.mj_plan.specs.declared.plan.Mapping.{Mapping}
use Rattle.mj_plan.specs.declared.plan.Plan.{Plan}
use Rattle.mj_plan.specs.declared.plan.Processor.{Processor}
use Rattle.mj_plan.specs.Sound.{is_mapping, IsSound}
use Rattle.mj_config_walk.specs.declared.fault.PlanFault.{PlanFault}
use Rattle.mj_config_walk.specs.declared.fault.PlanFault.TheVariants.{Refused}
use Rattle.mj_config_walk.specs.declared.fault.PlanKind.TheVariants.{NotToml, TooLarge}
use Rattle.mj_config_walk.specs.declared.spool.Spool.{Spool}
use Rattle.mj_config_walk.specs.Walk.{plan_of, plan_of_document, processors_in, document, plan_of_text, plan_within, plan, Answers}
use Rattle.mj_config_sound.proofs.Holds.{Holds, ok, err, located_of, after, choose, weaken}
use Rattle.mj_config_sound.proofs.SortedDocuments.{document_sorted}
use Rattle.mj_config_sound.proofs.SoundSpool.{IsSpool, spool_sound, rewrite_sound}
use Rattle.mj_config_sound.proofs.SoundProcessors.{AreSound, tables_at, headers_of, processors_sound}

few_tables : (count most : ℕ) → nat_le count most ≡ true → count ≤ most
few_tables count most h = grind (arith, nat_tests)

-- sound processors, of which there are at most 100
record AreFew (processors : List Processor) : Type 0 where
  count : ℕ
  few : count ≤ 100
  sound : AreSound count processors

processors_few : (read : Members) → members_are_sorted read ≡ true → Holds AreFew (processors_in (get_member (codes "processor") read))
processors_few read sorted =
    after (located_of 0 0 (tables_at 100 (codes "processor") read sorted)) (λ tables c.
    after (headers_of 1 [] tables c.sorted) (λ headers d.
    weaken (λ processors e. record { count = length tables; few = few_tables (length tables) 100 c.few; sound = e }) (processors_sound (length tables) headers d)))

all_parts : (spool : Spool) (mappings : List Mapping) (processors : List Processor) → IsSpool spool → (nat_le (length mappings) 1_000 && list_all is_mapping mappings) ≡ true
    → AreFew processors → IsSound (plan_of spool mappings processors)
all_parts spool mappings processors a b e = record {
  host_name = a.host_name;
  postmaster = a.postmaster;
  local_users = a.local_users;
  start = a.start;
  max_hops = a.max_hops;
  mappings = b;
  few = omega (arith, e.sound.long, e.few);
  names = e.sound.names;
  root = e.sound.root;
  error = e.sound.error;
  processors = e.sound.formed;
  deliveries = e.sound.deliveries;
}

pub document_sound : (read : Members) → members_are_sorted read ≡ true → Holds IsSound (plan_of_document read)
document_sound read sorted =
    after (located_of 0 0 (spool_sound (get_member (codes "spool") read))) (λ spool a.
    after (located_of 0 0 (rewrite_sound (get_member (codes "rewrite") read))) (λ mappings b.
    after (processors_few read sorted) (λ processors e.
    ok (plan_of spool mappings processors) (all_parts spool mappings processors a b e))))

text_sound : (text : Option Members) → ((read : Members) → text ≡ Some read → members_are_sorted read ≡ true) → Holds IsSound (plan_of_text text)
text_sound None h = err (Refused NotToml 0 0)
text_sound (Some read) h = document_sound read (h read refl)

read_sorted : (bytes : List ℕ) (b : Bool) (read : Members) → (if b then parse_document bytes else None) ≡ Some read → members_are_sorted read ≡ true
read_sorted bytes true read e = document_sorted bytes read e
read_sorted bytes false read e = absurd cc

within_sound : (limit : ℕ) (bytes : List ℕ) → Holds IsSound (plan_within limit bytes)
within_sound limit bytes = choose (nat_lt limit (length bytes)) (err (Refused TooLarge 0 0)) (text_sound (document bytes) (λ read e. read_sorted bytes (is_utf8 bytes) read e))

-- the plan of a configuration is sound
pub plan_sound : (bytes : List ℕ) (p : Plan) → plan bytes ≡ Ok p → IsSound p
unfolding plan
plan_sound bytes p e = (within_sound 1_048_576 bytes).of p e

-- and so is what a call answers that answers it
pub answers_sound : (result : Result Plan PlanFault) (bytes : List ℕ) → Answers result (plan bytes) → IfOk result IsSound
answers_sound (Ok p) bytes said = plan_sound bytes p said
answers_sound (Err fault) bytes said = tt
