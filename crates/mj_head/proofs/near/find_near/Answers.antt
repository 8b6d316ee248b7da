use Rattle.std.proofs.Common.{◌≡◌, subst, arith}
use Rattle.std.proofs.lemmas.Bool.{eq-eqb, eqb-true}
use Rattle.std.proofs.lemmas.List.{take_rest}
use Rattle.bstr.specs.Find.{Nowhere, Passes, is_byte}
use Rattle.mj_head.proofs.Nearby.{behind, nowhere, one_more}
use Rattle.mj_head.proofs.near.find_near.Goals as goal

pub loop-place-init : goal.loop-place-init
loop-place-init c = λ k low high p. omega arith

pub returns-then-text-place : goal.returns-then-text-place
returns-then-text-place c = (
  record { low = omega arith; high = omega (arith, c.min-near.ensures); before = c.loop-place.invariant },
  eq-eqb _ _ c.if-text-place.true,
)

pub loop-place-preserved : goal.loop-place-preserved
loop-place-preserved c = one_more (Passes (is_byte c.args.byte) c.args.text.now) c.loop-place.place c.loop-place.invariant (λ p. c.if-text-place.false (eqb-true _ _ p))

pub returns-in_err-place : goal.returns-in_err-place
returns-in_err-place c =
    let text = c.args.text.now in
    let near = c.min-near.result in
    let test = is_byte c.args.byte in
    let all : c.loop-place.place ≡ near = omega arith in
    let front : Nowhere (Passes test text) 0 near = subst (Nowhere (Passes test text) 0) all c.loop-place.invariant in
    rw c.from_residual.ensures (nowhere test text near front (omega (arith, c.min-near.ensures)) (rw (← take_rest text near) c.in_err-place.ensures))

pub returns : goal.returns
returns c =
    let text = c.args.text.now in
    let near = c.min-near.result in
    let test = is_byte c.args.byte in
    let all : c.loop-place.place ≡ near = omega arith in
    let front : Nowhere (Passes test text) 0 near = subst (Nowhere (Passes test text) 0) all c.loop-place.invariant in
    behind test text near front c.in_ok-place.place (rw (← take_rest text near) c.in_ok-place.ensures)
