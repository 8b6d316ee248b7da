use Rattle.std.proofs.Common.{◌≡◌, ◌≤◌, IfSome, drop}
use Rattle.mj_engine.specs.Run.{with_names, empty_report, site_of}
use Rattle.mj_engine.proofs.run.take_names.Given as goal

abbrev pub invariant-loop-k : goal.invariant-loop-k
invariant-loop-k g l = record {
  told : g.F.Files.told l.files ≡ g.F.Files.told l.initial.files;
  later : g.F.Files.faults l.initial.files ≤ g.F.Files.faults l.files;
  count : l.report.accepted ≤ l.k;
  exact : IfSome (g.F.Files.told l.initial.files) (λ told. with_names (site_of l.rules) told (drop l.k l.names) l.report ≡ with_names (site_of l.rules) told l.names empty_report);
}
