use Rattle.std.proofs.Common.{◌≡◌, IfSome, drop, subst, ap, ◌+◌, ◌∙◌, arith}
use Rattle.mj_engine.specs.Run.{with_name, with_names, empty_report, site_of}
use Rattle.mj_engine.proofs.Names.{IfSome_both, with_names-next}
use Rattle.mj_engine.proofs.run.take_names.Goals as goal

pub loop-k-preserved : goal.loop-k-preserved
loop-k-preserved g c =
    let taken = c.in_ok-take_name.ensures in
    let so_far = c.loop-k.invariant in
    record {
      told = taken.same ∙ so_far.told;
      later = omega (arith, so_far.later, taken.cause.later);
      count = omega (arith, so_far.count, taken.count);
      exact = IfSome_both (g.F.Files.told c.args.files.now)
          (λ told. c.take_name.new.report ≡ with_name (site_of c.args.rules.now) told c.loop-k.report c.name_at.result.now)
          (λ told. with_names (site_of c.args.rules.now) told (drop c.loop-k.k c.args.names.now) c.loop-k.report ≡ with_names (site_of c.args.rules.now) told c.args.names.now empty_report)
          (λ told. with_names (site_of c.args.rules.now) told (drop (c.loop-k.k + 1) c.args.names.now) c.take_name.new.report ≡ with_names (site_of c.args.rules.now) told c.args.names.now empty_report)
          (subst (λ o. IfSome o (λ told. c.take_name.new.report ≡ with_name (site_of c.args.rules.now) told c.loop-k.report c.name_at.result.now)) so_far.told taken.exact)
          so_far.exact
          (λ told here before.
          ap (with_names (site_of c.args.rules.now) told (drop (c.loop-k.k + 1) c.args.names.now)) here
          ∙ with_names-next (site_of c.args.rules.now) told c.args.names.now c.loop-k.k c.name_at.result.now c.loop-k.report c.name_at.ensures
          ∙ before);
    }
