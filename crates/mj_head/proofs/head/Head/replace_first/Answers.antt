use Rattle.std.proofs.Common.{◌∷◌}
use Rattle.mj_head.specs.Reading.{NoneIsNamed, IsFirstNamed}
use Rattle.mj_head.proofs.Changes.{replaced_first_is, replaced_first_none}
use Rattle.mj_head.proofs.head.Head.replace_first.Goals as goal

pub returns-in-Some-clause-fits : goal.returns-in-Some-clause-fits
returns-in-Some-clause-fits c =
    let first : IsFirstNamed c.args.name.now c.args.self.now c.in-Some.place = rw c.fields.ensures.all at c.in-Some.ensures in
    rw (replaced_first_is c.args.name.now (32 ∷ c.args.value.now) c.args.self.now c.in-Some.place first) c.replace_at.ensures.fits

pub returns-in-Some-clause-replaced : goal.returns-in-Some-clause-replaced
returns-in-Some-clause-replaced c =
    let first : IsFirstNamed c.args.name.now c.args.self.now c.in-Some.place = rw c.fields.ensures.all at c.in-Some.ensures in
    rw (replaced_first_is c.args.name.now (32 ∷ c.args.value.now) c.args.self.now c.in-Some.place first) c.replace_at.ensures.replaced

pub returns-in-None-clause-fits : goal.returns-in-None-clause-fits
returns-in-None-clause-fits c =
    let none : NoneIsNamed c.args.name.now c.args.self.now = rw c.fields.ensures.all at c.in-None.ensures in
    rw (replaced_first_none c.args.name.now (32 ∷ c.args.value.now) c.args.self.now none) c.append.ensures.fits

pub returns-in-None-clause-replaced : goal.returns-in-None-clause-replaced
returns-in-None-clause-replaced c =
    let none : NoneIsNamed c.args.name.now c.args.self.now = rw c.fields.ensures.all at c.in-None.ensures in
    rw (replaced_first_none c.args.name.now (32 ∷ c.args.value.now) c.args.self.now none) c.append.ensures.added
