use Rattle.std.proofs.Common.{◌≡◌, ◌-◌, ◌≤◌, ℕ, List, length, take, drop, min, max, ap, sym, ◌∙◌, subst, arith, length-drop}
use Rattle.std.proofs.lemmas.List.{take_all}
use Rattle.std.proofs.lemmas.Result.{IfOk-weaker}
use Rattle.mj_disk.specs.declared.tape.DiskCall.{DiskCall}
use Rattle.mj_disk.specs.Media.{IsImage}
use Rattle.mj_disk.specs.Moments.{Now}
use Rattle.mj_disk.specs.Past.{Past, moments_of}
use Rattle.mj_disk.specs.Tape.{IsKept}
use Rattle.mj_disk.proofs.Imaging.{is_image, ordered}
use Rattle.mj_disk.proofs.tape.Tape.image.Goals as goal

pub returns-clause-image : goal.returns-clause-image
returns-clause-image c =
    let t = c.self.inside in
    let image = c.in_ok-bytes.bytes.items in
    let made = c.deref-2.result.now in
    let same : made ≡ t.calls.items = c.deref-2.ensures.value in
    let calls : take (length made - t.synced) (drop t.synced made) ≡ drop t.synced t.calls.items =
    take_all (length made - t.synced) (drop t.synced made) (omega (arith, length-drop t.synced made)) ∙ ap (λ (l : List DiskCall). drop t.synced l) same in
    let order = ordered _ _ _ _ _ _ c.self.invariant in
    let size : length image ≡ c.max-size.result = c.in_ok-bytes.ensures.size in
    let most : c.max-size.result ≡ max c.min.result t.least = c.max-size.ensures in
    let least : c.min.result ≡ min c.image_size-size.result t.greatest = c.min.ensures in
    let low : t.least ≤ length image = omega arith in
    let high : length image ≤ t.greatest = omega arith in
    let kept : IsKept (drop t.synced t.calls.items) t.bytes.items t.least image =
    subst (λ (l : List DiskCall). IsKept l t.bytes.items t.least image) calls
    (subst (λ (l : List ℕ). IsKept (take (length made - t.synced) (drop t.synced made)) l t.least image) c.deref-3.ensures.value c.in_ok-bytes.ensures.kept) in
    let fact : Now (moments_of c.args.self.now) (λ m. IsImage m image) =
    subst (λ (p : Past). Now (moments_of p) (λ m. IsImage m image)) c.self.view_is (is_image _ _ _ _ _ _ c.self.invariant image low high kept) in
    IfOk-weaker c.new.result _ (λ (p : Past). Now (moments_of c.args.self.now) (λ m. IsImage m p.first))
    (λ p e. subst (λ (q : Past). Now (moments_of c.args.self.now) (λ m. IsImage m q.first)) (sym e) fact) c.new.ensures
