use Rattle.std.proofs.Common.{◌≡◌, length}
use Rattle.mj_mail.specs.Outcome.{both}
use Rattle.mj_container.specs.Running.{run}
use Rattle.mj_split.specs.Parts.{WaitFit}
use Rattle.mj_split.proofs.Turns.{pending, weight}
use Rattle.mj_split.proofs.run.run_parts.Given as goal

-- what was put out, and what becomes of the parts that wait
abbrev pub invariant-loop-part : goal.invariant-loop-part
invariant-loop-part l = record {
  told : both l.out (pending l.plan l.processor.name l.processor.steps l.waiting) ≡ run l.plan l.processor.name 1 l.processor.steps l.fn.mail;
  fit : WaitFit l.waiting;
}

abbrev pub decreases-loop-part : goal.decreases-loop-part
decreases-loop-part l = weight (length l.processor.steps) l.waiting
