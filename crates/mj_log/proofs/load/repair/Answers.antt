use Rattle.std.proofs.Common.{◌≡◌, ◌∷◌, ◌++◌, [], ℕ, List, length, subst}
use Rattle.mj_disk.specs.Media.{Media}
use Rattle.mj_disk.specs.Moments.{LeavesOnly, RestsAt}
use Rattle.mj_log.specs.Gate.{IsClosed}
use Rattle.mj_log.specs.View.{ReadsLike}
use Rattle.mj_log.proofs.Loads.{likes_itself, then_same, closed_likes, closed_journal}
use Rattle.mj_log.proofs.load.repair.Goals as goal

pub returns-in_err-places-clause-any_moment : goal.returns-in_err-places-clause-any_moment
returns-in_err-places-clause-any_moment g c = then_same _ _ _ (ReadsLike (g.D.Disk.moments c.args.disk.now)) (likes_itself _ c.requires.rests) c.scan.ensures.same

pub returns-in-Ok-clause-any_moment : goal.returns-in-Ok-clause-any_moment
returns-in-Ok-clause-any_moment g c =
    let end = c.in_ok-places.places.end in
    let any = subst (λ (h : List Media). (front junk : List ℕ) → length front ≡ end → RestsAt h (front ++ 0 ∷ junk) → LeavesOnly h (g.D.Disk.moments c.close_behind.new.disk) (IsClosed front)) c.scan.ensures.same c.close_behind.ensures.any_moment in
    closed_likes _ _ c.in_ok-places.places.gates.items end c.in_ok-places.ensures.found c.requires.rests any

pub returns-in-Ok-clause-journal : goal.returns-in-Ok-clause-journal
returns-in-Ok-clause-journal g c =
    let end = c.in_ok-places.places.end in
    let any = subst (λ (h : List Media). (front junk : List ℕ) → length front ≡ end → RestsAt h (front ++ 0 ∷ junk) → LeavesOnly h (g.D.Disk.moments c.close_behind.new.disk) (IsClosed front)) c.scan.ensures.same c.close_behind.ensures.any_moment in
    let done = subst (λ (h : List Media). (front junk : List ℕ) → length front ≡ end → RestsAt h (front ++ 0 ∷ junk) → RestsAt (g.D.Disk.moments c.close_behind.new.disk) (front ++ 0 ∷ [])) c.scan.ensures.same c.in-Ok.ensures.done in
    closed_journal _ _ c.in_ok-places.places.gates.items end c.in_ok-places.ensures.found c.requires.rests any done

pub returns-in-Err-clause-any_moment : goal.returns-in-Err-clause-any_moment
returns-in-Err-clause-any_moment g c =
    let end = c.in_ok-places.places.end in
    let any = subst (λ (h : List Media). (front junk : List ℕ) → length front ≡ end → RestsAt h (front ++ 0 ∷ junk) → LeavesOnly h (g.D.Disk.moments c.close_behind.new.disk) (IsClosed front)) c.scan.ensures.same c.close_behind.ensures.any_moment in
    closed_likes _ _ c.in_ok-places.places.gates.items end c.in_ok-places.ensures.found c.requires.rests any
