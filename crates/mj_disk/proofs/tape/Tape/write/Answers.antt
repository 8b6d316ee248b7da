use Rattle.std.proofs.Common.{rules, ◌≡◌, ◌∷◌, [], ◌++◌, List, ℕ, ap, ◌∙◌}
use Rattle.mj_disk.specs.declared.tape.DiskCall.TheVariants.{Write}
use Rattle.mj_disk.specs.Media.{overwritten}
use Rattle.mj_disk.proofs.Taping.{taped_write}
use Rattle.mj_disk.proofs.tape.Tape.write.Goals as goal

pub invariant_of-self-2 : goal.invariant_of-self-2
invariant_of-self-2 c =
    let more : c.push.new.self.items ≡ c.self.inside.calls.items ++ Write c.args.at c.args.piece.now ∷ [] =
    c.in_ok-push.ensures.items ∙ ap (λ (p : List ℕ). c.self.inside.calls.items ++ Write c.args.at p ∷ []) c.in_ok-bytes.ensures in
    let bytes : c.overwrite.new.bytes.items ≡ overwritten c.args.at c.args.piece.now c.self.inside.bytes.items = search rules in
    taped_write _ _ _ _ _ _ c.self.invariant c.args.at c.args.piece.now _ _ _ more bytes c.max-self-inside.ensures
