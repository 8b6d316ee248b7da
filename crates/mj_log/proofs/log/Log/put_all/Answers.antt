use Rattle.std.proofs.Common.{◌≡◌, ◌+◌, ◌-◌, ◌++◌, ◌≤◌, ℕ, List, length, take, drop, subst, sym, ◌∙◌, ap, arith}
use Rattle.std.specs.Prelude.{OnOk}
use Rattle.mj_disk.specs.Moments.{LeavesOnly}
use Rattle.mj_log.specs.Log.{texts, IsAt, WithOrWithout}
use Rattle.mj_log.specs.Places.{gates_of}
use Rattle.mj_log.specs.View.{LogView, told_of, Has, spread}
use Rattle.mj_log.proofs.Puts.{stays_with}
use Rattle.mj_log.proofs.Batches.{on_ok_map, batch, length-texts, chain_spread}
use Rattle.mj_log.proofs.log.Log.put_all.Goals as goal

pub returns-then-is_err-clause-any_moment : goal.returns-then-is_err-clause-any_moment
returns-then-is_err-clause-any_moment g c ps at =
    let V : Type 0 = LogView g.row.D.Denot in
    subst (λ (v : V). LeavesOnly (g.D.Disk.moments c.args.self.now.disk) (g.D.Disk.moments v.disk) (WithOrWithout ps (texts c.args.payloads.now))) (sym c.self.view_is)
    (stays_with (g.D.Disk.moments c.args.self.now.disk) ps (texts c.args.payloads.now) at.durable)

pub put-requires-clause-chain : goal.put-requires-clause-chain
put-requires-clause-chain g c =
    let b = batch (texts c.args.payloads.now) c.deref.result.now (omega (arith, length-texts c.args.payloads.now, c.requires.some)) (c.deref.ensures.value ∙ c.in-Ok.ensures) c.requires.short in
    (b.0, b.1, b.2, b.3, c.deref-2.ensures.value ∙ c.in-Ok-gates_of.ensures ∙ ap (λ (l : List (List ℕ)). gates_of c.self.inside.end l) b.4)

pub put-requires-clause-room : goal.put-requires-clause-room
put-requires-clause-room g c =
    let V : Type 0 = LogView g.row.D.Denot in
    let b = batch (texts c.args.payloads.now) c.deref.result.now (omega (arith, length-texts c.args.payloads.now, c.requires.some)) (c.deref.ensures.value ∙ c.in-Ok.ensures) c.requires.short in
    let long = ap (λ (l : List ℕ). length l) b.2 ∙ chain_spread b.0 b.1 ∙ sym (ap spread b.4) in
    let room = subst (λ (v : V). v.end + 1 + spread (texts c.args.payloads.now) ≤ v.limit) (sym c.self.view_is) c.requires.room in
    omega (arith, long, room)

pub returns-clause-added : goal.returns-clause-added
returns-clause-added g c ps at =
    let V : Type 0 = LogView g.row.D.Denot in
    let h = g.D.Disk.moments c.self.inside.disk in
    let b = batch (texts c.args.payloads.now) c.deref.result.now (omega (arith, length-texts c.args.payloads.now, c.requires.some)) (c.deref.ensures.value ∙ c.in-Ok.ensures) c.requires.short in
    let gates = c.deref-2.ensures.value ∙ c.in-Ok-gates_of.ensures ∙ ap (λ (l : List (List ℕ)). gates_of c.self.inside.end l) b.4 in
    let here = subst (λ (l : List ℕ). IsAt (told_of h (length l)) c.self.inside.stop h ps) (sym c.reserve.ensures.items) (subst (λ (v : V). Has g.D.Disk.moments v ps) (sym c.self.view_is) at) in
    subst (λ (l : List (List ℕ)). OnOk c.put.result (Has g.D.Disk.moments c.put.new.self (ps ++ l))) (sym b.4) (c.put.ensures.added ps b.0 b.1 b.2 b.3 gates here)

pub returns-clause-any_moment : goal.returns-clause-any_moment
returns-clause-any_moment g c ps at =
    let V : Type 0 = LogView g.row.D.Denot in
    let h = g.D.Disk.moments c.self.inside.disk in
    let b = batch (texts c.args.payloads.now) c.deref.result.now (omega (arith, length-texts c.args.payloads.now, c.requires.some)) (c.deref.ensures.value ∙ c.in-Ok.ensures) c.requires.short in
    let here = subst (λ (l : List ℕ). IsAt (told_of h (length l)) c.self.inside.stop h ps) (sym c.reserve.ensures.items) (subst (λ (v : V). Has g.D.Disk.moments v ps) (sym c.self.view_is) at) in
    subst (λ (v : V). LeavesOnly (g.D.Disk.moments v.disk) (g.D.Disk.moments c.put.new.self.disk) (WithOrWithout ps (texts c.args.payloads.now))) c.self.view_is
    (subst (λ (l : List (List ℕ)). LeavesOnly h (g.D.Disk.moments c.put.new.self.disk) (WithOrWithout ps l)) (sym b.4) (c.put.ensures.any_moment ps b.0 b.1 b.2 b.3 here))

pub returns-clause-done : goal.returns-clause-done
returns-clause-done g c =
    let V : Type 0 = LogView g.row.D.Denot in
    let all : List (List ℕ) = texts c.args.payloads.now in
    let b = batch all c.deref.result.now (omega (arith, length-texts c.args.payloads.now, c.requires.some)) (c.deref.ensures.value ∙ c.in-Ok.ensures) c.requires.short in
    let long : length (take (length c.deref.result.now - 1) (drop 1 c.deref.result.now)) ≡ spread all = ap (λ (l : List ℕ). length l) b.2 ∙ chain_spread b.0 b.1 ∙ sym (ap spread b.4) in
    let gates : c.deref-2.result.now ≡ gates_of c.self.inside.end all = c.deref-2.ensures.value ∙ c.in-Ok-gates_of.ensures in
    let places : c.reserve.new.self.items ++ c.deref-2.result.now ≡ c.args.self.now.places ++ gates_of c.args.self.now.end all =
    (λ i. c.reserve.ensures.items i ++ gates i) ∙ ap (λ (v : V). v.places ++ gates_of v.end all) c.self.view_is in
    let ends : c.self.inside.end + length (take (length c.deref.result.now - 1) (drop 1 c.deref.result.now)) ≡ c.args.self.now.end + spread all =
    ap (λ (n : ℕ). c.self.inside.end + n) long ∙ ap (λ (v : V). v.end + spread all) c.self.view_is in
    let limit : c.self.inside.limit ≡ c.args.self.now.limit = ap (λ (v : V). v.limit) c.self.view_is in
    let stop : c.self.inside.stop ≡ c.args.self.now.stop = ap (λ (v : V). v.stop) c.self.view_is in
    let new : V = c.put.new.self in
    on_ok_map _ _ c.put.result
    (λ p. p ∙ (λ i. record { disk = new.disk; places = places i; end = ends i; limit = limit i; stop = stop i; room = sym (ap (λ (v : V). v.room) p) i; slots = new.slots }))
    c.put.ensures.done
