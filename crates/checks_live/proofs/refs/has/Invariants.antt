use Rattle.checks_live.proofs.refs.has.Given as goal

abbrev pub ghosts-has_by : goal.ghosts-has_by
ghosts-has_by a = record { name = a.blank.name; parts = a.blank.parts }
