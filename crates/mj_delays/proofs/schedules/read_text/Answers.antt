use Rattle.std.proofs.Common.{arith, ap, sym, ◌∙◌}
use Rattle.std.specs.Option.{option_copied}
use Rattle.mj_delays.specs.Draft.{left, parts_of}
use Rattle.mj_delays.proofs.Drafts.{completed_start, completed_ok}
use Rattle.mj_delays.proofs.schedules.read_text.Goals as goal

pub loop-rest-init : goal.loop-rest-init
loop-rest-init c = record {
  whole = rw (c.new-draft.ensures.attempts, c.new-draft.ensures.delays) (completed_start c.args.max_retries c.args.text.now);
  begun = omega arith;
  room = omega arith;
}

pub loop-rest-preserved : goal.loop-rest-preserved
loop-rest-preserved c =
    let entry = c.in_ok-entry.ensures in
    let added = c.in_ok-add.ensures in
    record {
      whole =
          completed_ok c.args.max_retries c.loop-rest.draft.attempts c.add.new.self.attempts c.loop-rest.place c.loop-rest.draft.delays.items c.add.new.self.delays.items c.next_part.result.0.now (parts_of (option_copied c.loop-rest.rest)) (parts_of (option_copied c.next_part.result.1)) c.in_ok-entry.entry
          (ap (λ rest. parts_of (option_copied rest)) c.in-Some.is ∙ c.next_part.ensures.parts)
          (sym entry.value)
          added.attempts
          added.delays
          ∙ c.loop-rest.invariant.whole;
      begun = omega (arith, entry.some, added.attempts);
      room = omega (arith, c.next_part.ensures.shorter, ap (λ rest. left (option_copied rest)) c.in-Some.is);
    }
