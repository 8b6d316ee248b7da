-- What an address becomes by the mappings of a plan. A mapping's targets are looked up again, but for the address itself, up to ten
-- times in a row; of equal results the first is kept.
use Rattle.std.specs.Prelude.{ℕ, zero, suc, nat_lt, nat_le, if◌then◌else◌, List, [], ◌∷◌, ◌++◌, length, codes, Option, Some, None, Result, Ok, Err}
use Rattle.mj_terms.specs.Answers.{◌>>=◌, GivesBy}
use Rattle.mj_address.specs.Grammar.{Mailbox}
use Rattle.mj_address.specs.Same.{distinct, same_address, with_addresses}
use Rattle.mj_mail.specs.declared.limits.TheConstants.{MAX_RECIPIENTS}
use Rattle.mj_plan.specs.declared.plan.Mapping.{Mapping}
use Rattle.mj_plan.specs.declared.plan.Mapping.TheVariants.{Addresses, Error, Host}
use Rattle.mj_plan.specs.Rewriting.{mapping_of}
use Rattle.mj_container.specs.declared.rewrite_fault.RewriteFault.{RewriteFault}
use Rattle.mj_container.specs.declared.rewrite_fault.RewriteFault.TheVariants.{ErrorMapping, TooDeep, TooMany, Memory}
use Rattle.mj_container.specs.declared.rewrite_fault.TheConstants.{MAX_RESULTS, MAX_ROUNDS}

-- addresses, or the first fault
abbrev pub Expanded : Type 0
Expanded = Result (List Mailbox) RewriteFault

-- what becomes of an address, behind what was found before it
abbrev pub Expands : Type 0
Expands = Mailbox → List Mailbox → Expanded

-- ---- Expansion

-- one more address, of which there are at most 500
abbrev pub added : Expands
added address found = if nat_lt (length found) MAX_RESULTS then Ok (found ++ address ∷ []) else Err TooMany

-- a target that is the address itself stays, and another is expanded
abbrev pub target : Expands → Mailbox → Expands
target expand address to found = if same_address to address then added to found else expand to found

-- one target after another
abbrev pub targets : Expands → Mailbox → List Mailbox → List Mailbox → Expanded
targets expand address [] found = Ok found
targets expand address (to ∷ more) found = target expand address to found >>= targets expand address more

-- what a mapping makes of an address, if there is one
abbrev pub mapped : Expands → Mailbox → Option Mapping → List Mailbox → Expanded
mapped expand address None found = added address found
mapped expand address (Some (Addresses from to)) found = targets expand address to found
mapped expand address (Some (Error from text)) found = Err (ErrorMapping text)
mapped expand address (Some (Host from to)) found = targets expand address ((address.0, to) ∷ []) found

-- the same where no mapping may follow any more
abbrev pub settled : Mailbox → Option Mapping → List Mailbox → Expanded
settled address None found = added address found
settled address (Some mapping) found = Err TooDeep

-- what an address becomes where so many mappings may still follow each other
abbrev pub expand : List Mapping → ℕ → Expands
expand mappings zero address found = settled address (mapping_of address mappings) found
expand mappings (suc rounds) address found = mapped (expand mappings rounds) address (mapping_of address mappings) found

-- what an address becomes
abbrev pub expansion : List Mapping → Mailbox → Expanded
expansion mappings address = do
  all ← expand mappings MAX_ROUNDS address []
  Ok (distinct all)

-- ---- Recipients

abbrev pub at_most_all : List Mailbox → Expanded
at_most_all recipients = if nat_le (length recipients) MAX_RECIPIENTS then Ok recipients else Err TooMany

-- each of these becomes its expansion, behind the recipients so far
abbrev pub rewritten_behind : List Mapping → List Mailbox → List Mailbox → Expanded
rewritten_behind mappings found [] = Ok found
rewritten_behind mappings found (r ∷ more) = do
  to ← expansion mappings r
  all ← at_most_all (with_addresses found to)
  rewritten_behind mappings all more

abbrev pub rewritten : List Mapping → List Mailbox → Expanded
rewritten mappings recipients = rewritten_behind mappings [] recipients

-- ---- Faults

-- the text of a failure
abbrev pub fault_text : RewriteFault → List ℕ
fault_text (ErrorMapping text) = codes "ErrorMapping " ++ text
fault_text TooDeep = codes "RewriteTooDeep"
fault_text TooMany = codes "RewriteTooMany"
fault_text Memory = []

-- a fault but want of memory
abbrev pub told : RewriteFault → Option RewriteFault
told Memory = None
told fault = Some fault

-- A call's answer is what the definition says. Only want of memory comes beside it.
abbrev pub Gives : Expanded → Expanded → Type 0
Gives answer definition = GivesBy told (λ found. found) answer definition
