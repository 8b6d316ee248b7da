use Rattle.std.proofs.Common.{[], ◌∷◌, length, length-append, sym, ap, ◌∙◌, arith}
use Rattle.std.proofs.lemmas.List.Edits.{length-swap}
use Rattle.mj_ready.proofs.Sifting.{SinksFrom-pop, in_order-pop, heap_from_last}
use Rattle.mj_ready.proofs.heap.take.Goals as goal

pub sink-requires-clause-heap : goal.sink-requires-clause-heap
sink-requires-clause-heap g c =
    SinksFrom-pop c.args.rows.now.rows _ c.pop-first.result c.in_ok-last.last (omega (arith, c.in_ok-last.ensures, c.len.ensures))
    (sym c.exchange.ensures.rows ∙ c.pop-first.ensures.rows) c.requires

pub returns-then-last-gt0-clause-pairs : goal.returns-then-last-gt0-clause-pairs
returns-then-last-gt0-clause-pairs g c =
    in_order-pop c.args.rows.now.rows _ c.pop-first.result c.in_ok-last.last (omega (arith, c.in_ok-last.ensures, c.len.ensures))
    (sym c.exchange.ensures.rows ∙ c.pop-first.ensures.rows) c.requires
    ∙ ap (λ pairs. c.pop-first.result ∷ pairs) (sym c.sink.ensures.pairs)

pub returns-else-last-gt0-clause-heap : goal.returns-else-last-gt0-clause-heap
returns-else-last-gt0-clause-heap g c =
    let shorter = length-append c.pop-first.new.self.rows (c.pop-first.result ∷ []) in
    let exchanged = length-swap c.args.rows.now.rows 0 c.in_ok-last.last in
    heap_from_last _ 0
    (omega (arith, shorter, exchanged, ap length c.pop-first.ensures.rows, ap length c.exchange.ensures.rows, c.in_ok-last.ensures, c.len.ensures))
    (SinksFrom-pop c.args.rows.now.rows _ c.pop-first.result c.in_ok-last.last (omega (arith, c.in_ok-last.ensures, c.len.ensures))
    (sym c.exchange.ensures.rows ∙ c.pop-first.ensures.rows) c.requires)
