use Rattle.scene.proofs.place.+spot_of.Given as goal

abbrev pub decreases-spot_of : goal.decreases-spot_of
decreases-spot_of l = l.levels
