-- A verdict as the code keeps it: a truth value for each recipient in place of a test.
use Rattle.std.specs.Prelude.{List, map}
use Rattle.mj_container.specs.Matching.{Mailbox}
use Rattle.mj_container.specs.Verdict.{Verdict, Leaves, Takes}
use Rattle.mj_split.specs.declared.judge.Judged.{Judged}
use Rattle.mj_split.specs.declared.judge.Judged.TheVariants as judged

abbrev pub judged_as : List Mailbox → Verdict → Judged
judged_as recipients (Leaves state reason) = judged.Leaves state reason
judged_as recipients (Takes test) = judged.Takes (map test recipients)
