use Rattle.std.proofs.Common.{◌+◌}
use Rattle.std.proofs.lemmas.List.{take_rest}
use Rattle.mj_head.proofs.Unfolding.{crlf_split, crlf_whole}
use Rattle.mj_head.proofs.unfold.split_line.Goals as goal

pub returns-in_err-end-clause-cases : goal.returns-in_err-end-clause-cases
returns-in_err-end-clause-cases c = rw c.from_residual.ensures (crlf_whole c.args.body.now c.in_err-end.ensures)

pub returns-clause-cases : goal.returns-clause-cases
returns-clause-cases c = rw (take_rest c.args.body.now (c.in_ok-end.end + 1), c.line_to-line.ensures) (crlf_split c.args.body.now c.in_ok-end.end c.in_ok-end.ensures)
