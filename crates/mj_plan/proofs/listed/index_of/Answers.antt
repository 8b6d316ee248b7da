use Rattle.std.proofs.Common.{◌∙◌, ap}
use Rattle.std.proofs.lemmas.List.{take_all}
use Rattle.std.specs.List.{list_any}
use Rattle.mj_plan.proofs.Indexes.{indexed_more}
use Rattle.mj_plan.proofs.listed.index_of.Goals as goal

pub loop-item-preserved : goal.loop-item-preserved
loop-item-preserved g c =
    indexed_more g.T.PartialEq.eq g.met.T.Eq.laws c.args.items.now c.loop-item.index.keys c.insert.new.self.keys c.loop-item.item-index c.item-item.result c.in_ok-copied.field-0
    c.loop-item-test.true (c.in_ok-copied.ensures ∙ c.item-item.is) c.loop-item.invariant c.in_ok-insert.ensures.updates.0

pub returns : goal.returns
returns g c wanted =
    c.loop-item.invariant wanted ∙ ap (list_any (g.T.PartialEq.eq wanted)) (take_all c.loop-item.item-index c.args.items.now c.loop-item-test.false)
