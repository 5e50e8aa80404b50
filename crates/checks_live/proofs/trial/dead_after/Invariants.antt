use Rattle.checks_live.proofs.trial.dead_after.Given as goal

abbrev pub ghosts-dead_by : goal.ghosts-dead_by
ghosts-dead_by a = record { name = a.blank.name; parts = a.blank.parts }
