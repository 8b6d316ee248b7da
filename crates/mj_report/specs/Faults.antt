-- The lines of faults.
use Rattle.std.specs.Prelude.{ℕ, List, [], ◌∷◌, ◌++◌, codes}
use Rattle.std.specs.Fmt.{decimal}
use Rattle.mj_answers.specs.declared.fault.AnswersKind.{AnswersKind}
use Rattle.mj_answers.specs.declared.fault.AnswersKind.TheVariants as answers
use Rattle.mj_config_walk.specs.declared.fault.PlanKind.{PlanKind}
use Rattle.mj_config_walk.specs.declared.fault.PlanKind.TheVariants.{NoFile, TooLarge, NotToml, Missing, WrongType, BadAddress, BadMoment, NoRoot, NoError, Twice, ReservedState, UnknownClass, UnknownMatcher, BadArgument, UnknownProcessor, TooDeep, TooMany}
use Rattle.mj_report.specs.declared.faults.Fault.{Fault}
use Rattle.mj_report.specs.declared.faults.Fault.TheVariants.{Usage, Config, Answers, Read}

-- the line for words that are refused
abbrev pub usage_line : List ℕ
usage_line = codes "usage: james COMMAND [--workers N] [--number N] [--count N]" ++ 10 ∷ []

-- the line for files that failed
abbrev pub read_line : List ℕ
read_line = codes "fault read" ++ 10 ∷ []

-- the line for a configuration that is missing or refused: what is wrong, and in which step of which processor
abbrev pub kind_text : PlanKind → List ℕ
kind_text NoFile = codes "NoFile"
kind_text TooLarge = codes "TooLarge"
kind_text NotToml = codes "NotToml"
kind_text Missing = codes "Missing"
kind_text WrongType = codes "WrongType"
kind_text BadAddress = codes "BadAddress"
kind_text BadMoment = codes "BadMoment"
kind_text NoRoot = codes "NoRoot"
kind_text NoError = codes "NoError"
kind_text Twice = codes "Twice"
kind_text ReservedState = codes "ReservedState"
kind_text UnknownClass = codes "UnknownClass"
kind_text UnknownMatcher = codes "UnknownMatcher"
kind_text BadArgument = codes "BadArgument"
kind_text UnknownProcessor = codes "UnknownProcessor"
kind_text TooDeep = codes "TooDeep"
kind_text TooMany = codes "TooMany"

abbrev pub config_line : PlanKind → ℕ → ℕ → List ℕ
config_line kind processor step = codes "fault config " ++ kind_text kind ++ (32 ∷ decimal processor) ++ (32 ∷ decimal step) ++ 10 ∷ []

-- the line for a table of answers that is refused: what is wrong, and in which row
abbrev pub answers_kind_text : AnswersKind → List ℕ
answers_kind_text answers.TooLarge = codes "TooLarge"
answers_kind_text answers.NotToml = codes "NotToml"
answers_kind_text answers.TooMany = codes "TooMany"
answers_kind_text answers.WrongType = codes "WrongType"
answers_kind_text answers.BadHost = codes "BadHost"
answers_kind_text answers.BadAddress = codes "BadAddress"
answers_kind_text answers.BadReply = codes "BadReply"

abbrev pub answers_line : AnswersKind → ℕ → List ℕ
answers_line kind row = codes "fault answers " ++ answers_kind_text kind ++ (32 ∷ decimal row) ++ 10 ∷ []

-- the line of a fault
abbrev pub fault_line : Fault → List ℕ
fault_line Usage = usage_line
fault_line (Config kind processor step) = config_line kind processor step
fault_line (Answers kind row) = answers_line kind row
fault_line Read = read_line
