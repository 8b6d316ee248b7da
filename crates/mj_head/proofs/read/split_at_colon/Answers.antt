use Rattle.std.proofs.Common.{◌+◌, take, drop, ap, ◌∙◌, eqb}
use Rattle.std.specs.List.{list_any}
use Rattle.std.proofs.lemmas.List.{take_rest}
use Rattle.bstr.specs.Find.{is_byte}
use Rattle.mj_head.specs.Head.{before_colon, after_colon}
use Rattle.mj_head.proofs.Lines.{first_byte, none_pass}
use Rattle.mj_head.proofs.Names.{no_colon, has_colon, before_colon_at, after_colon_at}
use Rattle.mj_head.proofs.read.split_at_colon.Goals as goal

pub returns-in_err-colon : goal.returns-in_err-colon
returns-in_err-colon c = rw c.from_residual.ensures (no_colon c.args.line.now (none_pass (is_byte 58) c.args.line.now c.in_err-colon.ensures))

pub returns : goal.returns
returns c =
    let line = c.args.line.now in
    let k = c.in_ok-colon.colon in
    let p = first_byte 58 line k c.in_ok-colon.ensures in
    rw (take_rest line (k + 1)) (
      ap (list_any (λ b. eqb b 58)) p.0 ∙ has_colon (take k line) (drop (k + 1) line),
      ap before_colon p.0 ∙ before_colon_at (take k line) (drop (k + 1) line) p.1,
      ap after_colon p.0 ∙ after_colon_at (take k line) (drop (k + 1) line) p.1,
    )
