use Rattle.std.proofs.Common.{◌≡◌, ◌+◌, ◌≤◌, ◌<◌, ℕ, List, [], length, take, drop, get_or, Some, subst, sym, ◌∙◌, rules}
use Rattle.std.specs.Prelude.{OnOk}
use Rattle.mj_disk.specs.Moments.{Now}
use Rattle.mj_log.specs.View.{LogView, told, size_of}
use Rattle.mj_log.proofs.Placing.{get_same}
use Rattle.mj_log.proofs.Pieces.{part_is}
use Rattle.mj_log.proofs.log.Log.part.Goals.{in-Ok, in-Err}
use Rattle.mj_log.proofs.log.Log.part.Goals as goal

pub returns-clause-bytes : goal.returns-clause-bytes
returns-clause-bytes g c ps has =
    let V : Type 0 = LogView g.row.D.Denot in
    let low = subst (λ (v : V). c.args.number < length v.places) (sym c.self.view_is) c.requires.number in
    let within = subst (λ (v : V). c.args.from + length c.args.into.now ≤ size_of v c.args.number) (sym c.self.view_is) c.requires.within in
    let tells = subst (λ (v : V). told g.D.Disk.moments v ≡ Some ps) (sym c.self.view_is) has in
    let tail : List ℕ = take (length c.args.into.now) (drop c.args.from (get_or ps c.args.number [])) in
    elim c.match-read.branch [
      | in-Ok w ↦
          let gate : get_or c.self.inside.places.items c.args.number c.index-gate.result.now ≡ get_or c.self.inside.places.items c.args.number c.self.inside.end = get_same c.self.inside.places.items c.args.number c.index-gate.result.now c.self.inside.end low in
          let read = subst (λ (n : ℕ). Now (g.D.Disk.moments c.self.inside.disk) (λ m. take w.in-Ok.field-0 c.read.new.into ≡ take (length c.args.into.now) (drop (n + 5 + c.args.from) m.bytes))) (c.index-gate.ensures ∙ gate) w.in-Ok.ensures.bytes in
          subst (λ r. OnOk r (c.read.new.into ≡ tail)) (sym w.result-is)
          (part_is c.self.inside.places.items c.self.inside.end c.args.number low (g.D.Disk.moments c.self.inside.disk) c.self.invariant.held ps tells c.args.from w.in-Ok.field-0 c.args.into.now c.read.new.into within (search rules) w.in-Ok.ensures.bound read)
      | in-Err w ↦ subst (λ r. OnOk r (c.read.new.into ≡ tail)) (sym w.result-is) tt
    ]
