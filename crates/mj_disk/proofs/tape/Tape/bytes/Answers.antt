use Rattle.std.proofs.Common.{ap, sym, ◌∙◌, List, ℕ, subst, ◌≡◌, drop}
use Rattle.std.specs.Prelude.{Some}
use Rattle.mj_disk.specs.Moments.{bytes_now}
use Rattle.mj_disk.specs.Past.{Past, moments_of}
use Rattle.mj_disk.specs.Tape.{ranges}
use Rattle.mj_disk.proofs.Tearing.{told}
use Rattle.mj_disk.proofs.tape.Tape.bytes.Goals as goal

pub returns-clause-reads : goal.returns-clause-reads
returns-clause-reads c =
    let t = c.self.inside in
    subst (λ (p : Past). bytes_now (moments_of p) ≡ Some c.deref.result.now) c.self.view_is
    (told (record { first = t.first; calls = t.calls.items }) (record { bytes = t.bytes.items; least = t.least; greatest = t.greatest; touched = ranges (drop t.synced t.calls.items) }) c.self.invariant.last
    ∙ ap (λ (l : List ℕ). Some l) (sym c.deref.ensures.value))
