use Rattle.scene.proofs.ancestors.+outer_of.Given as goal

abbrev pub decreases-outer_of : goal.decreases-outer_of
decreases-outer_of l = l.levels
