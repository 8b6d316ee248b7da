use Rattle.std.proofs.Common.{List, ℕ, sym, subst}
use Rattle.mj_disk.specs.Moments.{Now}
use Rattle.mj_log.specs.Places.{IsJournal}
use Rattle.mj_log.proofs.Loads.{short_likes, short_journal}
use Rattle.mj_log.proofs.load.begin.Goals as goal

pub returns-in-Ok-clause-any_moment : goal.returns-in-Ok-clause-any_moment
returns-in-Ok-clause-any_moment g c = short_likes _ _ c.requires.short c.requires.rests c.write_anew.ensures.any_moment

pub returns-in-Ok-clause-journal : goal.returns-in-Ok-clause-journal
returns-in-Ok-clause-journal g c = subst (λ (l : List ℕ). Now (g.D.Disk.moments c.write_anew.new.disk) (IsJournal l 8)) (sym c.new.ensures.items)
    (short_journal _ _ c.requires.short c.requires.rests c.in-Ok.ensures.done)

pub returns-in-Err-clause-any_moment : goal.returns-in-Err-clause-any_moment
returns-in-Err-clause-any_moment g c = short_likes _ _ c.requires.short c.requires.rests c.write_anew.ensures.any_moment
