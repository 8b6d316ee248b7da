use Rattle.std.proofs.Common.{◌∙◌, ◌++◌, ap}
use Rattle.std.specs.List.{flat_map, list_all}
use Rattle.mj_mail.specs.Meaning.{tree}
use Rattle.mj_mail.specs.Rules.{step_by}
use Rattle.mj_mail.proofs.Trees.{rules_fall, step_is}
use Rattle.mj_report.specs.Facts.{fact_line}
use Rattle.mj_engine.proofs.Carried.{last_sound, turn}
use Rattle.mj_engine.proofs.carry.carry.Goals as goal

pub take_step-taken-requires : goal.take_step-taken-requires
take_step-taken-requires g c =
    (last_sound (g.R.Rules.is_sound c.args.rules.now) c.loop-mail.waiting c.pop.new.self c.in-Some.mail c.loop-mail.invariant.sound c.in-Some.ensures).1

pub loop-mail-preserved : goal.loop-mail-preserved
loop-mail-preserved g c =
    let rules = c.args.rules.now in
    let mail = c.in-Some.mail in
    let sound = g.R.Rules.is_sound rules in
    let falls = g.met.R.Rules.falls rules in
    let step = step_by g.R.Rules.is_sound g.R.Rules.reply_of g.R.Rules.outcome_of rules in
    let parts = last_sound sound c.loop-mail.waiting c.pop.new.self mail c.loop-mail.invariant.sound c.in-Some.ensures in
    let is = step_is g.R.Rules.measure g.R.Rules.is_sound g.R.Rules.reply_of g.R.Rules.outcome_of rules falls mail parts.1 in
    let t = turn g.R.Rules.measure step sound (rules_fall g.R.Rules.measure g.R.Rules.is_sound g.R.Rules.reply_of g.R.Rules.outcome_of rules falls) c.pop.new.self mail
    (c.args.out.now ++ flat_map fact_line (tree g.R.Rules.measure step c.args.mail))
    c.loop-mail.out c.take_step-taken.new.out c.loop-mail.waiting c.take_step-taken.new.waiting parts.0
    (ap (λ o. list_all sound o.children) is ∙ g.met.R.Rules.children_sound rules mail parts.1)
    c.loop-mail.invariant.lines c.in-Some.ensures c.in_ok-taken.ensures.lines c.in_ok-taken.ensures.waiting in
    record { sound = t.sound; lines = t.lines }

pub loop-mail-smaller : goal.loop-mail-smaller
loop-mail-smaller g c =
    let rules = c.args.rules.now in
    let mail = c.in-Some.mail in
    let sound = g.R.Rules.is_sound rules in
    let falls = g.met.R.Rules.falls rules in
    let step = step_by g.R.Rules.is_sound g.R.Rules.reply_of g.R.Rules.outcome_of rules in
    let parts = last_sound sound c.loop-mail.waiting c.pop.new.self mail c.loop-mail.invariant.sound c.in-Some.ensures in
    let is = step_is g.R.Rules.measure g.R.Rules.is_sound g.R.Rules.reply_of g.R.Rules.outcome_of rules falls mail parts.1 in
    let t = turn g.R.Rules.measure step sound (rules_fall g.R.Rules.measure g.R.Rules.is_sound g.R.Rules.reply_of g.R.Rules.outcome_of rules falls) c.pop.new.self mail
    (c.args.out.now ++ flat_map fact_line (tree g.R.Rules.measure step c.args.mail))
    c.loop-mail.out c.take_step-taken.new.out c.loop-mail.waiting c.take_step-taken.new.waiting parts.0
    (ap (λ o. list_all sound o.children) is ∙ g.met.R.Rules.children_sound rules mail parts.1)
    c.loop-mail.invariant.lines c.in-Some.ensures c.in_ok-taken.ensures.lines c.in_ok-taken.ensures.waiting in
    t.lighter
