use Rattle.std.proofs.Common.{◌++◌, ◌∷◌, [], subst, sym, ◌∙◌, ap}
use Rattle.std.specs.Prelude.{OnOk}
use Rattle.mj_log.specs.View.{LogView, Has}
use Rattle.mj_log.proofs.log.Log.append.Goals as goal

pub returns-clause-added : goal.returns-clause-added
returns-clause-added g c ps at =
    let V : Type 0 = LogView g.row.D.Denot in
    let added = c.put-outcome.ensures.added ps c.args.payload.now [] (c.deref.ensures.value ∙ c.fill_frame.ensures.items) (c.requires.short, tt) (ap (λ (v : V). v.end ∷ []) c.put.view_is)
    (subst (λ (v : V). Has g.D.Disk.moments v ps) (sym c.self.view_is) at) in
    subst (λ (v : V). OnOk c.put-outcome.result (Has g.D.Disk.moments v (ps ++ c.args.payload.now ∷ []))) (sym c.self-2.view_is) added
