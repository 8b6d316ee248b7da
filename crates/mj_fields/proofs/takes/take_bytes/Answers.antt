use Rattle.std.proofs.Common.{rules, ◌≡◌, ◌≤◌, ◌+◌, ◌-◌, ℕ, List, length, take, drop, ap, ◌∙◌, arith, length-drop}
use Rattle.std.proofs.lemmas.List.{length-take-le}
use Rattle.mj_fields.proofs.Parts.{string_is}
use Rattle.mj_fields.proofs.takes.take_bytes.Goals as goal

pub returns-clause-written : goal.returns-clause-written
returns-clause-written c =
    let bytes = c.args.bytes.now in
    let from = c.in_ok-count.from in
    let count = c.in_ok-count.count in
    let short : from + count - from ≡ count = omega arith in
    let text : take (from + count - from) (drop from bytes) ≡ take count (drop from bytes) = ap (λ (k : ℕ). take k (drop from bytes)) short in
    let enough : from + count ≤ length bytes = c.if-end-bytes.false in
    let size : length (take (from + count - from) (drop from bytes)) ≡ count = ap (λ (l : List ℕ). length l) text ∙ length-take-le count (drop from bytes) (omega (arith, length-drop from bytes)) in
    string_is bytes _ c.args.at from count (search rules) c.in_ok-count.ensures.written text size
