use Rattle.message_delivery_tests.proofs.plain.+deliver.Given as goal

abbrev pub decreases-deliver : goal.decreases-deliver
decreases-deliver l = l.levels
