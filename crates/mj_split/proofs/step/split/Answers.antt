use Rattle.std.proofs.Common.{◌≡◌, ◌∙◌, List, true, false, sym, ap, subst}
use Rattle.std.specs.List.{list_any}
use Rattle.mj_address.specs.Masks.{left, taken}
use Rattle.mj_container.specs.Matching.{Mailbox}
use Rattle.mj_mail.specs.Outcome.{both}
use Rattle.mj_container.specs.Running.{parted, served}
use Rattle.mj_address.specs.Short.{is_short}
use Rattle.mj_container.specs.Sound.{IsFit}
use Rattle.mj_container.proofs.Facts.{limits_of}
use Rattle.mj_split.specs.Parts.{IsFitNext, goes_on}
use Rattle.mj_split.proofs.Masks.{left_all, left_fewer, none_taken, some_taken, taken_all, taken_fewer}
use Rattle.mj_split.proofs.Turns.{any_fit, any_goes, sided, some_fit}
use Rattle.mj_split.proofs.step.split.Goals as goal

pub returns-then-not-takes_some-clause-outcome : goal.returns-then-not-takes_some-clause-outcome
returns-then-not-takes_some-clause-outcome c on =
    let at = c.args.at in
    let mask = c.args.mask.now in
    let rs = c.args.mail.recipients in
    let none : list_any (λ b. b) mask ≡ false = sym c.takes_some.ensures ∙ c.if-not-takes_some.true in
    ap (λ (hits : List Mailbox). both c.args.out.now (parted (served at.plan.now at.name.now at.number at.step.now on) on c.args.mail hits (left mask rs))) (sym (none_taken mask rs none))

-- the part that is taken is fit
pub serve_part-requires-clause-fit : goal.serve_part-requires-clause-fit
serve_part-requires-clause-fit c =
    let mask = c.args.mask.now in
    let rs = c.args.mail.recipients in
    let some : list_any (λ b. b) mask ≡ true = sym c.takes_some.ensures ∙ c.if-not-takes_some.false in
    subst IsFit (sym c.in_ok-mail.ensures.taken) (some_fit c.args.mail (taken mask rs) c.requires.fit (some_taken mask rs c.requires.mask some) (taken_fewer mask rs)
    (taken_all is_short mask rs (limits_of c.args.mail c.requires.fit.limits).short))

pub returns-clause-fit : goal.returns-clause-fit
returns-clause-fit c =
    let mask = c.args.mask.now in
    let rs = c.args.mail.recipients in
    record {
      served = c.in_ok-served.ensures.fit;
      rest = subst IsFitNext (sym c.in_ok-mail.ensures.left) (any_fit c.args.mail (left mask rs) c.requires.fit (left_fewer mask rs) (left_all is_short mask rs (limits_of c.args.mail c.requires.fit.limits).short));
    }

pub returns-clause-outcome : goal.returns-clause-outcome
returns-clause-outcome c =
    let at = c.args.at in
    let mask = c.args.mask.now in
    let rs = c.args.mail.recipients in
    let some : list_any (λ b. b) mask ≡ true = sym c.takes_some.ensures ∙ c.if-not-takes_some.false in
    sided at.plan.now at.name.now at.number at.step.now c.args.mail c.in_ok-mail.mail (taken mask rs) (left mask rs) c.args.out.now c.serve_part.new.out c.in_ok-served.served c.in_ok-mail.rest
    (some_taken mask rs c.requires.mask some) c.in_ok-mail.ensures.taken c.in_ok-served.ensures.outcome
    (λ on. ap (goes_on on) c.in_ok-mail.ensures.left ∙ any_goes on c.args.mail (left mask rs))
