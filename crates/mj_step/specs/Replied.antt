-- When replies are those that a step of a mail asks for.
use Rattle.std.specs.Prelude.{◌==◌, ◌&&◌, Bool, true, List, ℕ, length}
use Rattle.std.specs.List.{list_all}
use Rattle.mj_mail.specs.declared.mail.Mail.{Mail}
use Rattle.mj_mail.specs.declared.mail.Stage.{Stage}
use Rattle.mj_mail.specs.declared.mail.Stage.TheVariants.{Process, Remote}
use Rattle.mj_mail.specs.declared.reply.Reply.{Reply}
use Rattle.mj_mail.specs.Reply.{is_reply}

-- one reply of its form for each of these recipients, where their mail was sent to a host
abbrev pub are_for_at : Stage → List (List ℕ × List ℕ) → List Reply → Bool
are_for_at (Process state) recipients replies = true
are_for_at (Remote delivery host number) recipients replies = length replies == length recipients && list_all is_reply replies

abbrev pub are_for : Mail → List Reply → Bool
are_for mail replies = are_for_at mail.stage mail.recipients replies
