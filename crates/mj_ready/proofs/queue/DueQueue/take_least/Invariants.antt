use Rattle.mj_ready.proofs.queue.DueQueue.take_least.Given as goal

abbrev pub ghosts-take_least_from : goal.ghosts-take_least_from
ghosts-take_least_from a = record { name = a.blank.name; parts = a.blank.parts }
