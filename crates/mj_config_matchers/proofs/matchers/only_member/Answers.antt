use Rattle.std.proofs.Common.{sym, ◌∙◌, ap}
use Rattle.toml.specs.Data.{member, no_members}
use Rattle.toml.specs.View.{view}
use Rattle.mj_config_matchers.proofs.OneMember.{not_one, only_one}
use Rattle.mj_config_matchers.proofs.matchers.only_member.Goals as goal

pub returns-then-len-ne1 : goal.returns-then-len-ne1
returns-then-len-ne1 c = not_one c.args.table.now.entries (λ one. c.if-len-ne1.true (c.len.ensures.len ∙ one))

pub returns : goal.returns
returns c =
    only_one c.args.table.now.entries (c.in_ok-name.name.now, c.in_ok-name.value.now) (sym c.len.ensures.len ∙ c.if-len-ne1.false) c.in_ok-name.ensures.first
    ∙ ap (λ s. member s (view c.in_ok-name.value.now) no_members) (sym c.as_bytes.ensures.value)
