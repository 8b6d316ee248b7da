use Rattle.std.proofs.Common.{◌∙◌, ap, drop}
use Rattle.mj_head.proofs.Places.{got}
use Rattle.mj_head.proofs.head.Head.get.Goals as goal

pub returns : goal.returns
returns c = got c.args.self.now c.fields_from-fields.result c.next.new.self c.args.place c.next.result (c.fields_from-fields.ensures ∙ ap (drop c.args.place) c.fields.ensures.all) c.next.ensures.steps
