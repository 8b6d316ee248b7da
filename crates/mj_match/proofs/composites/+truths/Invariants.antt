use Rattle.std.proofs.Common.{◌≡◌, map, take}
use Rattle.mj_match.specs.Composites.{hits_of}
use Rattle.mj_match.proofs.composites.+truths.Given as goal

-- the matchers so far are counted
abbrev pub invariant-hits_of-loop-matcher : goal.invariant-hits_of-loop-matcher
invariant-hits_of-loop-matcher l = l.counts.items ≡ map (hits_of l.plan l.mail (take l.matcher-index l.matchers)) l.mail.recipients
