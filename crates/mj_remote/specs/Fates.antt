-- What becomes of the recipients of an attempt by their replies.
use Rattle.std.specs.Prelude.{ℕ, Bool, List, Option}
use Rattle.mj_mail.specs.declared.reply.Class.{Class}
use Rattle.mj_mail.specs.declared.reply.Reply.{Reply}
use Rattle.mj_container.specs.Matching.{Mailbox}
use Rattle.mj_container.specs.Settling.{Answer, answers, is_given_up, is_served, is_tried_again, those}
use Rattle.mj_remote.specs.declared.fate.Fate.{Fate}
use Rattle.mj_remote.specs.declared.fate.Fate.TheVariants.{Served, GivenUp, TriedAgain}

-- whether a reply of this class means this fate
abbrev pub meets : Fate → Option ℕ → Class → Bool
meets Served delay class = is_served class
meets GivenUp delay class = is_given_up delay class
meets TriedAgain delay class = is_tried_again delay class

-- the answers that mean this fate
abbrev pub fated : Fate → Option ℕ → List Mailbox → List Reply → List Answer
fated fate delay recipients replies = those (meets fate delay) (answers recipients replies)
