use Rattle.std.proofs.Common.{◌≡◌, ◌++◌, true}
use Rattle.std.specs.List.{flat_map, list_all}
use Rattle.mj_mail.specs.Meaning.{tree}
use Rattle.mj_mail.specs.Rules.{step_by}
use Rattle.mj_report.specs.Facts.{fact_line}
use Rattle.mj_engine.proofs.Carried.{waiting_lines, waiting_weight}
use Rattle.mj_engine.proofs.carry.carry.Given as goal

abbrev pub invariant-loop-mail : goal.invariant-loop-mail
invariant-loop-mail g l =
    let step = step_by g.R.Rules.is_sound g.R.Rules.reply_of g.R.Rules.outcome_of l.rules in
    record {
      sound : list_all (g.R.Rules.is_sound l.rules) l.waiting ≡ true;
      lines : l.out ++ waiting_lines g.R.Rules.measure step l.waiting ≡ l.initial.out ++ flat_map fact_line (tree g.R.Rules.measure step l.fn.mail);
    }

abbrev pub decreases-loop-mail : goal.decreases-loop-mail
decreases-loop-mail g l =
    waiting_weight g.R.Rules.measure (step_by g.R.Rules.is_sound g.R.Rules.reply_of g.R.Rules.outcome_of l.rules) l.waiting
