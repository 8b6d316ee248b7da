use Rattle.std.proofs.Common.{◌≡◌, ◌+◌, ◌≤◌, [], length}
use Rattle.mj_head.specs.Head.{lines}
use Rattle.mj_mailfile.specs.MailFile.{recipients_of}
use Rattle.mj_mailfile.proofs.read.read_recipients.Given as goal

abbrev pub invariant-loop-text : goal.invariant-loop-text
invariant-loop-text l = record {
  same : recipients_of l.number l.found (lines l.rest) ≡ recipients_of 2 [] (lines l.bytes);
  few : length l.found ≤ 500;
  begins : 2 ≤ l.number;
  within : l.number + length l.rest ≤ 2 + length l.bytes;
}

abbrev pub decreases-loop-text : goal.decreases-loop-text
decreases-loop-text l = length l.rest
