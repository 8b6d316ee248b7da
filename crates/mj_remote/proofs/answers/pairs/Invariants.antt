use Rattle.std.proofs.Common.{◌≡◌, ◌++◌, map}
use Rattle.std.specs.Iterator.Adapters.{zip_first, zip_second}
use Rattle.std.specs.Slice.Iter.{iter_rest}
use Rattle.mj_remote.specs.declared.fate.Fate.TheVariants.{GivenUp}
use Rattle.mj_remote.specs.Fates.{fated}
use Rattle.mj_remote.proofs.answers.pairs.Given as goal

-- what was put down, and what is to come
abbrev pub invariant-loop-recipient : goal.invariant-loop-recipient
invariant-loop-recipient l =
    l.pairs.items ++ map (λ answer. (answer.1, answer.0)) (fated GivenUp l.delay
    (iter_rest (zip_first l.recipient-iterator)) (iter_rest (zip_second l.recipient-iterator)))
    ≡ map (λ answer. (answer.1, answer.0)) (fated GivenUp l.delay l.recipients l.replies)
