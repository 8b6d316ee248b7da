use Rattle.std.proofs.Common.{◌≡◌, ◌+◌, drop, get_or, true, false, not, ap, arith}
use Rattle.std.proofs.lemmas.List.Sums.{prefix_len-drop_yes, prefix_len-drop_no}
use Rattle.std.specs.Ordering.{nat_cmp, is_le}
use Rattle.std.specs.Cmp.Lexicographic.{slice_cmp}
use Rattle.mj_io.specs.Folder.{place_of}
use Rattle.mj_io.proofs.memory_files.place.Goals as goal

pub returns-then-comes_first-clause-value : goal.returns-then-comes_first-clause-value
returns-then-comes_first-clause-value c =
    let names = c.args.names.now in
    let d = c.index-names-k.result in
    let stops : is_le (slice_cmp nat_cmp c.args.name.now (get_or names c.loop-k.k d)) ≡ true = rw (← c.index-names-k.is, ← c.as_slice.ensures, ← c.comes_first.ensures) c.if-comes_first.true in
    let none = prefix_len-drop_no (λ x. not (is_le (slice_cmp nat_cmp c.args.name.now x))) names c.loop-k.k d c.loop-k-test.true (ap not stops) in
    let here : place_of c.args.name.now (drop c.loop-k.k names) ≡ 0 = none in
    omega (arith, c.loop-k.invariant)

pub loop-k-preserved : goal.loop-k-preserved
loop-k-preserved c =
    let names = c.args.names.now in
    let d = c.index-names-k.result in
    let goes : is_le (slice_cmp nat_cmp c.args.name.now (get_or names c.loop-k.k d)) ≡ false = rw (← c.index-names-k.is, ← c.as_slice.ensures, ← c.comes_first.ensures) c.if-comes_first.false in
    let more = prefix_len-drop_yes (λ x. not (is_le (slice_cmp nat_cmp c.args.name.now x))) names c.loop-k.k d c.loop-k-test.true (ap not goes) in
    let here : place_of c.args.name.now (drop c.loop-k.k names) ≡ 1 + place_of c.args.name.now (drop (c.loop-k.k + 1) names) = more in
    omega (arith, c.loop-k.invariant)
