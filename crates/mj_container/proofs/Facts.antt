-- What soundness says, part by part.
use Rattle.std.proofs.Common.{◌≡◌, ◌∙◌, ℕ, ◌+◌, ◌≤◌, Bool, true, false, List, [], ◌∷◌, length, sym, ap, arith, Option, Some}
use Rattle.std.specs.Prelude.{nat_le, ◌&&◌, if◌then◌else◌}
use Rattle.std.specs.List.{list_all}
use Rattle.std.specs.Str.{bytes_eq}
use Rattle.std.proofs.lemmas.Bool.{and_parts}
use Rattle.std.proofs.lemmas.Cmp.{nat_list_eq_equiv}
use Rattle.std.proofs.lemmas.Bool.Decides.{nat_tests}
use Rattle.mj_address.specs.Short.{is_short}
use Rattle.mj_head.specs.Head.{written}
use Rattle.mj_mail.specs.declared.limits.TheConstants.{MAX_ERROR, MAX_HEAD}
use Rattle.mj_mail.specs.declared.mail.Mail.{Mail}
use Rattle.mj_mail.specs.declared.mail.Stage.TheVariants.{Process, Remote}
use Rattle.mj_mail.specs.Mail.{body_len}
use Rattle.mj_mail.specs.Rules.{has_recipients, is_short_sender, is_small_body}
use Rattle.mj_plan.specs.declared.plan.Plan.{Plan}
use Rattle.mj_plan.specs.declared.plan.Processor.{Processor}
use Rattle.mj_plan.specs.Lookups.{processor_named}
use Rattle.mj_plan.specs.Forms.{has_length}
use Rattle.mj_plan.specs.Sound.{is_between}
use Rattle.mj_container.specs.Sound.{are_attributes, keeps_limits, latest, latest_attempt, may_stand, measure, names_delivery, names_processor}

pub both_true : (a b : Bool) → a ≡ true → b ≡ true → (a && b) ≡ true
both_true a b p q = rw (p, q)

-- a mail that waits for a processor of this name, and is sound
pub record Waits (plan : Plan) (state : List ℕ) (mail : Mail) : Type 0 where
  pub limits : keeps_limits mail ≡ true
  pub named : names_processor plan state ≡ true
  pub hops : mail.hops ≤ 1_001
  pub due : mail.due ≤ latest mail.hops
  pub path : length mail.name.path + measure mail ≤ 102_203

pub le_of : (m n : ℕ) → nat_le m n ≡ true → m ≤ n
le_of m n h = grind (arith, nat_tests, h)

pub of_le : (m n : ℕ) → m ≤ n → nat_le m n ≡ true
of_le m n h = grind (arith, nat_tests, h)

-- a text of a form has no more bytes than the form allows
pub shorter : (test : ℕ → Bool) (least most : ℕ) (text : List ℕ) → (has_length least most text && list_all test text) ≡ true → length text ≤ most
shorter test least most text h =
    let long = (and_parts (has_length least most text) (list_all test text) h).0 in
    le_of (length text) most (and_parts (nat_le least (length text)) (nat_le (length text) most) long).1

pub waits : (plan : Plan) (state : List ℕ) (mail : Mail) → (keeps_limits mail && may_stand plan (Process state) mail) ≡ true → Waits plan state mail
waits plan state mail h =
    let path = nat_le (length mail.name.path + measure mail) 102_203 in
    let due = nat_le mail.due (latest mail.hops) in
    let hops = nat_le mail.hops 1_001 in
    let all = and_parts (keeps_limits mail) (may_stand plan (Process state) mail) h in
    let stands = and_parts (names_processor plan state) (hops && (due && path)) all.1 in
    let bounds = and_parts hops (due && path) stands.1 in
    let last = and_parts due path bounds.1 in
    record {
      limits = all.0;
      named = stands.0;
      hops = le_of mail.hops 1_001 bounds.0;
      due = le_of mail.due (latest mail.hops) last.0;
      path = le_of (length mail.name.path + measure mail) 102_203 last.1;
    }

pub waits_sound : (plan : Plan) (state : List ℕ) (mail : Mail) → Waits plan state mail → (keeps_limits mail && may_stand plan (Process state) mail) ≡ true
waits_sound plan state mail w =
    let path = nat_le (length mail.name.path + measure mail) 102_203 in
    let due = nat_le mail.due (latest mail.hops) in
    let hops = nat_le mail.hops 1_001 in
    let last = both_true due path (of_le mail.due (latest mail.hops) w.due) (of_le (length mail.name.path + measure mail) 102_203 w.path) in
    let bounds = both_true hops (due && path) (of_le mail.hops 1_001 w.hops) last in
    both_true (keeps_limits mail) (may_stand plan (Process state) mail) w.limits (both_true (names_processor plan state) (hops && (due && path)) w.named bounds)

-- a mail that waits for an attempt of this number by a remote delivery of this name, and is sound
pub record Tried (plan : Plan) (delivery : List ℕ) (number : ℕ) (mail : Mail) : Type 0 where
  pub limits : keeps_limits mail ≡ true
  pub named : names_delivery plan delivery ≡ true
  pub some_hops : 1 ≤ mail.hops
  pub few_hops : mail.hops ≤ 1_000
  pub first : 1 ≤ number
  pub last : number ≤ 101
  pub due : mail.due ≤ latest_attempt mail.hops number
  pub path : length mail.name.path + measure mail ≤ 102_203

within : (least most n : ℕ) → is_between least most n ≡ true → (least ≤ n) × (n ≤ most)
within least most n h = let parts = and_parts (nat_le least n) (nat_le n most) h in (le_of least n parts.0, le_of n most parts.1)

pub tried : (plan : Plan) (delivery host : List ℕ) (number : ℕ) (mail : Mail) → (keeps_limits mail && may_stand plan (Remote delivery host number) mail) ≡ true
    → Tried plan delivery number mail
tried plan delivery host number mail h =
    let path = nat_le (length mail.name.path + measure mail) 102_203 in
    let due = nat_le mail.due (latest_attempt mail.hops number) in
    let bounds = is_between 1 1_000 mail.hops && is_between 1 101 number in
    let all = and_parts (keeps_limits mail) (may_stand plan (Remote delivery host number) mail) h in
    let stands = and_parts (names_delivery plan delivery) (bounds && (due && path)) all.1 in
    let inner = and_parts bounds (due && path) stands.1 in
    let numbers = and_parts (is_between 1 1_000 mail.hops) (is_between 1 101 number) inner.0 in
    let last = and_parts due path inner.1 in
    let hops = within 1 1_000 mail.hops numbers.0 in
    let attempts = within 1 101 number numbers.1 in
    record {
      limits = all.0;
      named = stands.0;
      some_hops = hops.0;
      few_hops = hops.1;
      first = attempts.0;
      last = attempts.1;
      due = le_of mail.due (latest_attempt mail.hops number) last.0;
      path = le_of (length mail.name.path + measure mail) 102_203 last.1;
    }

pub tried_sound : (plan : Plan) (delivery host : List ℕ) (number : ℕ) (mail : Mail) → Tried plan delivery number mail
    → (keeps_limits mail && may_stand plan (Remote delivery host number) mail) ≡ true
tried_sound plan delivery host number mail t =
    let path = nat_le (length mail.name.path + measure mail) 102_203 in
    let due = nat_le mail.due (latest_attempt mail.hops number) in
    let bounds = is_between 1 1_000 mail.hops && is_between 1 101 number in
    let hops = both_true (nat_le 1 mail.hops) (nat_le mail.hops 1_000) (of_le 1 mail.hops t.some_hops) (of_le mail.hops 1_000 t.few_hops) in
    let attempts = both_true (nat_le 1 number) (nat_le number 101) (of_le 1 number t.first) (of_le number 101 t.last) in
    let numbers = both_true (is_between 1 1_000 mail.hops) (is_between 1 101 number) hops attempts in
    let last = both_true due path (of_le mail.due (latest_attempt mail.hops number) t.due) (of_le (length mail.name.path + measure mail) 102_203 t.path) in
    both_true (keeps_limits mail) (may_stand plan (Remote delivery host number) mail) t.limits
    (both_true (names_delivery plan delivery) (bounds && (due && path)) t.named (both_true bounds (due && path) numbers last))

-- ---- Limits

-- what a mail carries, part by part
pub record Limits (mail : Mail) : Type 0 where
  pub recipients : has_recipients mail.recipients ≡ true
  pub short : list_all is_short mail.recipients ≡ true
  pub sender : is_short_sender mail.sender ≡ true
  pub attributes : are_attributes mail.attributes ≡ true
  pub error : nat_le (length mail.error) MAX_ERROR ≡ true
  pub head : nat_le (length (written mail.head)) MAX_HEAD ≡ true
  pub body : is_small_body (body_len mail.body) ≡ true

pub limits_of : (mail : Mail) → keeps_limits mail ≡ true → Limits mail
limits_of mail h =
    let body = is_small_body (body_len mail.body) in
    let head = nat_le (length (written mail.head)) MAX_HEAD in
    let error = nat_le (length mail.error) MAX_ERROR in
    let others = are_attributes mail.attributes && (error && (head && body)) in
    let sender = is_short_sender mail.sender in
    let short = list_all is_short mail.recipients in
    let all = and_parts (has_recipients mail.recipients) (short && (sender && others)) h in
    let addresses = and_parts short (sender && others) all.1 in
    let front = and_parts sender others addresses.1 in
    let rest = and_parts (are_attributes mail.attributes) (error && (head && body)) front.1 in
    let last = and_parts error (head && body) rest.1 in
    let message = and_parts head body last.1 in
    record {
      recipients = all.0;
      short = addresses.0;
      sender = front.0;
      attributes = rest.0;
      error = last.0;
      head = message.0;
      body = message.1;
    }

pub limits_kept : (mail : Mail) → Limits mail → keeps_limits mail ≡ true
limits_kept mail l =
    let body = is_small_body (body_len mail.body) in
    let head = nat_le (length (written mail.head)) MAX_HEAD in
    let error = nat_le (length mail.error) MAX_ERROR in
    let attributes = are_attributes mail.attributes in
    let others = attributes && (error && (head && body)) in
    let sender = is_short_sender mail.sender in
    both_true (has_recipients mail.recipients) (list_all is_short mail.recipients && (sender && others)) l.recipients
    (both_true (list_all is_short mail.recipients) (sender && others) l.short
    (both_true sender others l.sender
    (both_true attributes (error && (head && body)) l.attributes (both_true error (head && body) l.error (both_true head body l.head l.body)))))

-- ---- Processors by their names

passes_by : (test : Processor → Bool) (p q : Processor) (rest : Option Processor) (b : Bool) → (if b then Some p else rest) ≡ Some q
    → test p ≡ true → (rest ≡ Some q → test q ≡ true) → test q ≡ true
passes_by test p q rest true e here later = let same : p ≡ q = cc in sym (ap test same) ∙ here
passes_by test p q rest false e here later = later e

-- what holds of each processor holds of the one that is found
pub processor_passes : (test : Processor → Bool) (state : List ℕ) (processors : List Processor) (p : Processor) → processor_named state processors ≡ Some p
    → list_all test processors ≡ true → test p ≡ true
processor_passes test state [] p e all = cc
processor_passes test state (q ∷ processors) p e all =
    let parts = and_parts (test q) (list_all test processors) all in
    passes_by test q p (processor_named state processors) (bytes_eq q.name state) e parts.0 (λ f. processor_passes test state processors p f parts.1)

pub same_bytes : (a b : List ℕ) → bytes_eq a b ≡ bytes_eq b a
same_bytes a b = nat_list_eq_equiv.symm a b
