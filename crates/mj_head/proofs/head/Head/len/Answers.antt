use Rattle.std.proofs.Common.{ap, ◌∙◌, length}
use Rattle.mj_head_lines.specs.Ends.{field_ends}
use Rattle.mj_head.proofs.Counting.{count_ends}
use Rattle.mj_head.proofs.head.Head.len.Goals as goal

pub returns : goal.returns
returns c =
    c.count_field_ends.ensures
    ∙ ap field_ends c.as_slice.ensures
    ∙ count_ends c.self.inside.text c.self.invariant.0 c.self.invariant.1
    ∙ ap length c.self.view_is
