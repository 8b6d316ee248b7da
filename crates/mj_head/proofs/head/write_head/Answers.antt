use Rattle.std.proofs.Common.{◌≡◌, rules}
use Rattle.mj_head.specs.Head.{written}
use Rattle.mj_head.proofs.Law.{read_again}
use Rattle.mj_head.proofs.head.write_head.Goals as goal

pub returns-clause-read_again : goal.returns-clause-read_again
returns-clause-read_again c =
    let text : c.write_to.new.out.items ≡ written c.args.head.now = search rules in
    λ body. rw text (read_again c.args.head.now c.written_len.ensures.head body)
