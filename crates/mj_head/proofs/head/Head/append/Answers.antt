use Rattle.std.proofs.Common.{◌≡◌, ◌≤◌, ◌∷◌, length, ap, refl, arith}
use Rattle.std.proofs.lemmas.Bool.{false≢true}
use Rattle.mj_head.specs.Head.{written}
use Rattle.mj_head.proofs.Changes.{length-written_push, head_short, value_formed}
use Rattle.mj_head.proofs.head.Head.append.Goals as goal

pub returns-then-needed-len-clause-fits : goal.returns-then-needed-len-clause-fits
returns-then-needed-len-clause-fits c =
    let len : length (written c.args.self.now) ≡ length c.self.inside.text = rw (← c.self.view_is) (ap length c.self.invariant.0) in
    let short : length (written c.args.self.now) ≤ 65536 = rw (← c.self.view_is) (head_short _ c.self.invariant.1) in (
      λ no. absurd (false≢true no),
      λ fits. absurd (omega (arith, fits, len, short, length-written_push c.args.self.now (c.args.name.now, 32 ∷ c.args.value.now))),
    )

pub push-requires-clause-form : goal.push-requires-clause-form
push-requires-clause-form c = value_formed c.args.name.now c.args.value.now c.requires.name c.requires.value

pub returns-clause-fits : goal.returns-clause-fits
returns-clause-fits c =
    let len : length (written c.args.self.now) ≡ length c.self.inside.text = rw (← c.self.view_is) (ap length c.self.invariant.0) in
    let short : length (written c.args.self.now) ≤ 65536 = rw (← c.self.view_is) (head_short _ c.self.invariant.1) in
    (λ _. omega (arith, len, short, length-written_push c.args.self.now (c.args.name.now, 32 ∷ c.args.value.now)), λ _. refl)
