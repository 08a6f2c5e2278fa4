use Rattle.tree_tests.proofs.plain.Plain.+list.Given as goal

abbrev pub decreases-list : goal.decreases-list
decreases-list l = l.levels
