use Rattle.gui_lock.proofs.lock.announce.Given as goal

abbrev pub ghosts-tell : goal.ghosts-tell
ghosts-tell g a = record { list = g.V.Kept.entries a.value.now }
