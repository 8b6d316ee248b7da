use Rattle.std.proofs.Common.{rules, ◌≡◌, ◌++◌, ◌<◌, ◌^◌, List, ℕ, length, sym, subst, arith}
use Rattle.std.specs.Prelude.{Some, OnOk}
use Rattle.std.proofs.lemmas.Result.{on_ok_weaker}
use Rattle.mj_fields.specs.Fields.{with_length, string_at}
use Rattle.mj_fields.specs.FieldLaws.{string_back}
use Rattle.mj_fields.proofs.puts.put_bytes.Goals as goal

pub returns-clause-back : goal.returns-clause-back
returns-clause-back c rest =
    let old = c.args.out.now in
    let text = c.args.v.now in
    let small : length text < 2 ^ 32 = omega (arith, c.requires) in
    let put : OnOk c.extend_two.result (c.extend_two.new.self ≡ old ++ with_length text) = search rules in
    on_ok_weaker c.extend_two.result (λ e. subst (λ (l : List ℕ). string_at (l ++ rest) (length old) ≡ Some (text, length l)) (sym e) (string_back old text rest small)) put
