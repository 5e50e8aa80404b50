use Rattle.checks_live.proofs.refs.lays.Given as goal

abbrev pub ghosts-lays_by : goal.ghosts-lays_by
ghosts-lays_by a = record { name = a.blank.name; parts = a.blank.parts }
