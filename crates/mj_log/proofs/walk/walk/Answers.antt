use Rattle.std.proofs.Common.{arith, rules, ◌≡◌, ◌∙◌, ◌<◌, ◌≤◌, ◌+◌, ◌++◌, ◌∷◌, [], ℕ, List, length, get_or, IfSome, IsNone, sym, subst, refl}
use Rattle.std.specs.Prelude.{Option}
use Rattle.mj_disk.specs.Media.{Media}
use Rattle.mj_disk.specs.Moments.{Now}
use Rattle.mj_log.specs.Header.{IsFrame, StopsAt}
use Rattle.mj_log.specs.Places.{AreSpaced, IsWalked}
use Rattle.mj_log.specs.View.{Refuses}
use Rattle.mj_log.specs.Journal.{payloads}
use Rattle.mj_log.proofs.Placing.{spaced_none, spaced_next}
use Rattle.mj_log.proofs.Walks.{HasFrames, begins_now, next_now, ends_now, stops_now}
use Rattle.mj_log.proofs.walk.walk.Goals as goal

pub loop-next-init : goal.loop-next-init
loop-next-init g c = record {
  same = refl;
  frames = subst (λ (l : List ℕ). Now (g.D.Disk.moments c.args.disk.now) (λ m. HasFrames l 8 m.bytes)) (sym c.requires.none) (begins_now _ c.requires.begins);
  spaced = subst (λ (l : List ℕ). AreSpaced l 8) (sym c.requires.none) (spaced_none 8);
  within = omega arith;
  later = omega arith;
}

pub loop-next-preserved : goal.loop-next-preserved
loop-next-preserved g c =
    let i = c.loop-next.invariant in
    let h = g.D.Disk.moments c.args.disk.now in
    let e = c.in_ok-next.ensures in
    let found = subst (λ (o : Option ℕ). IfSome o (λ next. Now (g.D.Disk.moments c.loop-next.disk) (λ m. IsFrame m.bytes c.loop-next.end next))) c.in-Some.is e.frame in
    let opened = subst (λ (o : Option ℕ). IfSome o (λ next. (c.pass.new.gates.items ≡ c.loop-next.gates.items ++ c.loop-next.end ∷ []) × (c.loop-next.end + 5 ≤ next) × (next < c.args.file))) c.in-Some.is e.open in
    let frame = subst (λ (k : List Media). Now k (λ m. IsFrame m.bytes c.loop-next.end c.in-Some.next)) i.same found in
    record {
      same = e.same ∙ i.same;
      frames = subst (λ (l : List ℕ). Now h (λ m. HasFrames l c.in-Some.next m.bytes)) (sym opened.0) (next_now h c.loop-next.gates.items c.loop-next.end c.in-Some.next c.args.file c.requires.file i.frames frame opened.1 opened.2);
      spaced = subst (λ (l : List ℕ). AreSpaced l c.in-Some.next) (sym opened.0) (spaced_next c.loop-next.gates.items c.loop-next.end c.in-Some.next i.spaced opened.1);
      within = opened.2;
      later = omega (arith, i.later, e.cause.later);
    }

pub returns-in_err-next-clause-fault : goal.returns-in_err-next-clause-fault
returns-in_err-next-clause-fault g c =
    let i = c.loop-next.invariant in
    let fault = c.in_err-next.field-0.0 in
    let stops = subst (λ (k : List Media). Now k (λ m. StopsAt fault (length c.loop-next.gates.items) m.bytes c.loop-next.end)) i.same c.in_err-next.ensures.fault in
    let refused : Now (g.D.Disk.moments c.args.disk.now) (λ m. Refuses fault (payloads m.bytes)) = stops_now fault _ c.loop-next.gates.items c.loop-next.end c.args.file c.requires.file i.frames i.within c.requires.long stops in
    search rules

pub returns-in-None-clause-found : goal.returns-in-None-clause-found
returns-in-None-clause-found g c =
    let i = c.loop-next.invariant in
    let h = g.D.Disk.moments c.args.disk.now in
    let none : IsNone c.in_ok-next.field-0 = subst (λ (o : Option ℕ). IsNone o) (sym c.in-None.is) refl in
    let closed = c.in_ok-next.ensures.closed none in
    subst (λ (l : List ℕ). Now h (λ m. IsWalked l c.loop-next.end m.bytes)) (sym closed.0)
    (ends_now h c.loop-next.gates.items c.loop-next.end c.args.file c.requires.file i.frames i.within (subst (λ (k : List Media). Now k (λ m. get_or m.bytes c.loop-next.end 0 ≡ 0)) i.same closed.1))
