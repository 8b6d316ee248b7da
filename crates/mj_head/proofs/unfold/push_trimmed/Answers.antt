use Rattle.std.proofs.Common.{◌≡◌, eqb, length, rules}
use Rattle.std.specs.Result.{is_ok}
use Rattle.mj_head.proofs.Unfolding.{pushed_new, pushed_same, on_ok_from}
use Rattle.mj_head.proofs.unfold.push_trimmed.Goals as goal

pub returns-clause-trimmed : goal.returns-clause-trimmed
returns-clause-trimmed c =
    let first : c.is_empty.result ≡ eqb (length c.args.text.now.items) 0 = search rules in
    pushed_new c.args.text.now.items c.args.part.now c.trimmed_first-part.result.now c.extend_from_slice.new.self.items c.is_empty.result (is_ok c.extend_from_slice.result) c.requires first c.trimmed_first-part.ensures c.extend_from_slice.ensures.items

pub returns-clause-same : goal.returns-clause-same
returns-clause-same c =
    let first : c.is_empty.result ≡ eqb (length c.args.text.now.items) 0 = search rules in
    on_ok_from c.extend_from_slice.result (λ done. pushed_same c.args.text.now.items c.args.part.now c.trimmed_first-part.result.now c.extend_from_slice.new.self.items c.is_empty.result (is_ok c.extend_from_slice.result) c.requires first c.trimmed_first-part.ensures c.extend_from_slice.ensures.items done)
