-- Words of lines: recipients, and the line of an attempt at a host.
use Rattle.std.specs.Prelude.{ℕ, zero, suc, List, [], ◌∷◌, ◌++◌}
use Rattle.std.specs.Fmt.{decimal}
use Rattle.std.specs.List.{flat_map}
use Rattle.mj_address.specs.Reading.{spelled}
use Rattle.mj_mail.specs.declared.mail.Mail.{Mail}
use Rattle.mj_mail.specs.declared.mail.Stage.{Stage}
use Rattle.mj_mail.specs.declared.mail.Stage.TheVariants.{Process, Remote}
use Rattle.mj_mail.specs.Name.{text_of}

-- the addresses as they are spelled, joined by commas
abbrev pub recipients_text : List (List ℕ × List ℕ) → List ℕ
recipients_text [] = []
recipients_text (address ∷ rest) = spelled address ++ flat_map (λ other. 44 ∷ spelled other) rest

-- what stands before the address at a place
abbrev pub separator : ℕ → List ℕ
separator zero = []
separator (suc place) = 44 ∷ []

-- what stands behind the name: the attempt's number, the host and the recipients, each behind a space
abbrev pub attempt_text : List (List ℕ × List ℕ) → List ℕ → ℕ → List ℕ
attempt_text recipients host attempt = (32 ∷ decimal attempt) ++ (32 ∷ host) ++ 32 ∷ recipients_text recipients

abbrev pub stage_text : List (List ℕ × List ℕ) → Stage → List ℕ
stage_text recipients (Process state) = []
stage_text recipients (Remote delivery host attempt) = attempt_text recipients host attempt

-- the line of an attempt, without LF
abbrev pub wire_line : Mail → List ℕ
wire_line mail = text_of mail.name ++ stage_text mail.recipients mail.stage
