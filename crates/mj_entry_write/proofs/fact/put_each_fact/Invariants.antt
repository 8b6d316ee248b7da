use Rattle.std.proofs.Common.{◌≡◌, ◌++◌, take}
use Rattle.std.specs.List.{AllByRecursion, flat_map}
use Rattle.mj_entry_rows.specs.Forms.{IsFact}
use Rattle.mj_mail.specs.Entry.{fact_form}
use Rattle.mj_entry_write.proofs.fact.put_each_fact.Given as goal

abbrev pub invariant-loop-fact : goal.invariant-loop-fact
invariant-loop-fact l =
    (l.out ≡ l.initial.out ++ flat_map fact_form (take l.fact-index l.facts)) × AllByRecursion IsFact (take l.fact-index l.facts)
