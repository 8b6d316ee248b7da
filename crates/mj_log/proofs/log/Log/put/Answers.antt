use Rattle.std.proofs.Common.{◌≡◌, ◌+◌, ◌∷◌, ◌++◌, ◌≤◌, ℕ, List, length, Some, None, subst, sym, ◌∙◌, ap, arith}
use Rattle.mj_disk.specs.Moments.{Now, LeavesOnly}
use Rattle.mj_log.specs.Log.{IsAt, WithOrWithout}
use Rattle.mj_log.specs.Places.{gates_of, AreSpaced, IsJournal}
use Rattle.mj_log.specs.View.{LogView, told, told_of}
use Rattle.mj_log.proofs.Puts.{put_leaves, put_invariant, put_added, put_told, put_held, held_of, spaced_gates}
use Rattle.mj_log.proofs.log.Log.put.Goals as goal

pub invariant_of-self : goal.invariant_of-self
invariant_of-self g c =
    let k = c.requires.chain in
    let V : Type 0 = LogView g.row.D.Denot in
    let h = g.D.Disk.moments c.put_behind_gate.new.disk in
    let end = c.self.inside.end in
    let open_yet : c.self.inside.stop ≡ None = ap (λ (v : V). v.stop) c.self.view_is ∙ c.requires.open in
    let room : end + 1 + length c.args.tail.now ≤ c.self.inside.limit = subst (λ (v : V). v.end + 1 + length c.args.tail.now ≤ v.limit) (sym c.self.view_is) c.requires.room in
    let gates : c.args.gates.now ≡ gates_of end (k.0 ∷ k.1) = k.4 ∙ ap (λ (v : V). gates_of v.end (k.0 ∷ k.1)) (sym c.self.view_is) in
    let places : c.extend_places.new.places.items ≡ c.self.inside.places.items ++ gates_of end (k.0 ∷ k.1) = c.extend_places.ensures.items ∙ ap (λ (l : List ℕ). c.self.inside.places.items ++ l) gates in
    let journal : Now h (IsJournal c.extend_places.new.places.items (end + length c.args.tail.now)) =
    subst (λ (l : List ℕ). Now h (IsJournal l (end + length c.args.tail.now))) (sym places)
    (put_invariant (g.D.Disk.moments c.self.inside.disk) h c.self.inside.places.items end c.args.tail.now k.0 k.1 k.2 k.3 c.put_behind_gate.ensures.any_moment (c.self.invariant.journal open_yet) c.in-Ok.ensures.done) in
    record {
      journal = λ none. journal;
      held = held_of h c.extend_places.new.places.items (end + length c.args.tail.now) journal;
      spaced = subst (λ (l : List ℕ). AreSpaced l (end + length c.args.tail.now)) (sym places)
          (subst (λ (t : List ℕ). AreSpaced (c.self.inside.places.items ++ gates_of end (k.0 ∷ k.1)) (end + length t)) (sym k.2) (spaced_gates c.self.inside.places.items end k.0 k.1 c.self.invariant.spaced));
      fits = omega (arith, room, c.self.invariant.limited);
      limited = c.self.invariant.limited;
    }

pub invariant_of-self-in-Err : goal.invariant_of-self-in-Err
invariant_of-self-in-Err g c =
    let k = c.requires.chain in
    let V : Type 0 = LogView g.row.D.Denot in
    let open_yet : c.self.inside.stop ≡ None = ap (λ (v : V). v.stop) c.self.view_is ∙ c.requires.open in
    record {
      journal = λ none. absurd (cc);
      held = put_held (g.D.Disk.moments c.self.inside.disk) _ c.self.inside.places.items c.self.inside.end c.args.tail.now k.0 k.1 k.2 k.3 c.put_behind_gate.ensures.any_moment (c.self.invariant.journal open_yet) (g.met.D.Disk.reads c.put_behind_gate.new.disk);
      spaced = c.self.invariant.spaced;
      fits = c.self.invariant.fits;
      limited = c.self.invariant.limited;
    }

pub returns-in-Ok-clause-any_moment : goal.returns-in-Ok-clause-any_moment
returns-in-Ok-clause-any_moment g c ps q qs is short at =
    let V : Type 0 = LogView g.row.D.Denot in
    let open_yet : c.self.inside.stop ≡ None = ap (λ (v : V). v.stop) c.self.view_is ∙ c.requires.open in
    let has = subst (λ (v : V). told g.D.Disk.moments v ≡ Some ps) (sym c.self.view_is) at.has in
    subst (λ (v : V). LeavesOnly (g.D.Disk.moments v.disk) (g.D.Disk.moments c.put_behind_gate.new.disk) (WithOrWithout ps (q ∷ qs))) c.self.view_is
    (put_leaves (g.D.Disk.moments c.self.inside.disk) _ c.self.inside.places.items c.self.inside.end c.args.tail.now q qs is short c.put_behind_gate.ensures.any_moment ps (c.self.invariant.journal open_yet) has)

pub returns-in-Ok-clause-added : goal.returns-in-Ok-clause-added
returns-in-Ok-clause-added g c ps q qs is short are at =
    let V : Type 0 = LogView g.row.D.Denot in
    let h = g.D.Disk.moments c.put_behind_gate.new.disk in
    let open_yet : c.self.inside.stop ≡ None = ap (λ (v : V). v.stop) c.self.view_is ∙ c.requires.open in
    let has = subst (λ (v : V). told g.D.Disk.moments v ≡ Some ps) (sym c.self.view_is) at.has in
    let gates : c.args.gates.now ≡ gates_of c.self.inside.end (q ∷ qs) = are ∙ ap (λ (v : V). gates_of v.end (q ∷ qs)) (sym c.self.view_is) in
    let places : c.extend_places.new.places.items ≡ c.self.inside.places.items ++ gates_of c.self.inside.end (q ∷ qs) = c.extend_places.ensures.items ∙ ap (λ (l : List ℕ). c.self.inside.places.items ++ l) gates in
    subst (λ (l : List ℕ). IsAt (told_of h (length l)) c.self.inside.stop h (ps ++ q ∷ qs)) (sym places)
    (put_added (g.D.Disk.moments c.self.inside.disk) h c.self.inside.places.items c.self.inside.end c.args.tail.now q qs is short c.put_behind_gate.ensures.any_moment ps c.self.inside.stop open_yet (c.self.invariant.journal open_yet) c.in-Ok.ensures.done has)

pub returns-in-Err-clause-any_moment : goal.returns-in-Err-clause-any_moment
returns-in-Err-clause-any_moment g c ps q qs is short at =
    let V : Type 0 = LogView g.row.D.Denot in
    let open_yet : c.self.inside.stop ≡ None = ap (λ (v : V). v.stop) c.self.view_is ∙ c.requires.open in
    let has = subst (λ (v : V). told g.D.Disk.moments v ≡ Some ps) (sym c.self.view_is) at.has in
    subst (λ (v : V). LeavesOnly (g.D.Disk.moments v.disk) (g.D.Disk.moments c.put_behind_gate.new.disk) (WithOrWithout ps (q ∷ qs))) c.self.view_is
    (put_leaves (g.D.Disk.moments c.self.inside.disk) _ c.self.inside.places.items c.self.inside.end c.args.tail.now q qs is short c.put_behind_gate.ensures.any_moment ps (c.self.invariant.journal open_yet) has)

pub returns-in-Err-clause-tells : goal.returns-in-Err-clause-tells
returns-in-Err-clause-tells g c =
    let V : Type 0 = LogView g.row.D.Denot in
    let k = c.requires.chain in
    let h = g.D.Disk.moments c.put_behind_gate.new.disk in
    let open_yet : c.self.inside.stop ≡ None = ap (λ (v : V). v.stop) c.self.view_is ∙ c.requires.open in
    let same = put_told (g.D.Disk.moments c.self.inside.disk) h c.self.inside.places.items c.self.inside.end c.args.tail.now k.0 k.1 k.2 k.3 c.put_behind_gate.ensures.any_moment (c.self.invariant.journal open_yet) (g.met.D.Disk.reads c.put_behind_gate.new.disk) in
    subst (λ (v : V). told_of h (length c.self.inside.places.items) ≡ told g.D.Disk.moments v) c.self.view_is same
