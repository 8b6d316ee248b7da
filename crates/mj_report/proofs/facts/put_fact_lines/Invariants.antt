use Rattle.std.proofs.Common.{◌≡◌, ◌+◌, ◌++◌, drop}
use Rattle.std.specs.List.{flat_map}
use Rattle.mj_mail.specs.Meaning.{placed}
use Rattle.mj_report.specs.Facts.{fact_line}
use Rattle.mj_report.proofs.Lines.{placed_from}
use Rattle.mj_report.proofs.facts.put_fact_lines.Given as goal

abbrev pub invariant-loop-k : goal.invariant-loop-k
invariant-loop-k l = l.out ++ flat_map fact_line (placed_from l.name (l.k + 1) (drop l.k l.facts)) ≡ l.initial.out ++ flat_map fact_line (placed l.name l.facts)
