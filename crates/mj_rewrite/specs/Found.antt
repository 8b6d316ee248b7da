-- What a call that adds to a list leaves there.
use Rattle.std.specs.Prelude.{List, Result}
use Rattle.mj_terms.specs.Answers.{◌>>=◌, GivesBy}
use Rattle.mj_address.specs.Grammar.{Mailbox}
use Rattle.mj_address.specs.Same.{with_addresses}
use Rattle.mj_container.specs.Expansion.{Expanded, at_most_all, expansion, told}
use Rattle.mj_container.specs.declared.rewrite_fault.RewriteFault.{RewriteFault}
use Rattle.mj_plan.specs.declared.plan.Mapping.{Mapping}

-- The list is what the definition says, or the call's fault is. Only want of memory comes beside it.
abbrev pub Leaves : {X : Type 0} → Result X RewriteFault → List Mailbox → Expanded → Type 0
Leaves answer found definition = GivesBy told (λ done. found) answer definition

-- the recipients so far, and behind them what one more becomes
abbrev pub with_rewritten : List Mapping → Mailbox → List Mailbox → Expanded
with_rewritten mappings recipient found = expansion mappings recipient >>= λ to. at_most_all (with_addresses found to)
