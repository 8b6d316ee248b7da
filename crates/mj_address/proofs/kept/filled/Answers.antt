use Rattle.std.proofs.Common.{◌∙◌, sym, ap, arith, ◌++◌}
use Rattle.std.specs.Prelude.{Result, Ok, Err, IfOk}
use Rattle.std.specs.Result.{IsOk}
use Rattle.mj_address.proofs.Different.{filled_more}
use Rattle.mj_address.proofs.kept.filled.Goals as goal

-- what a call that succeeds promises
promised : {X E : Type 0} (answer : Result X E) {P : Type 0} → IsOk answer → IfOk answer (λ _. P) → P
promised (Ok x) ok holds = holds
promised (Err e) ok holds = cc

pub loop-address-preserved : goal.loop-address-preserved
loop-address-preserved c =
    let next = c.in-Some.ensures.steps in
    let kept = c.loop-address.invariant in
    let put = promised c.insert.result (c.insert.ensures.succeeds (omega (arith, next.1, kept.room))) c.insert.ensures.keys in
    record {
      all = filled_more c.args.list.items c.loop-address.set.keys c.insert.new.self.keys c.in-Some.address _ c.requires.different
          (ap (λ rest. c.loop-address.set.keys ++ rest) (sym next.0) ∙ kept.all) put;
      room = omega (arith, next.1, kept.room, c.insert.ensures.spare);
    }
