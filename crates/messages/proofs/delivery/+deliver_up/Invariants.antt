use Rattle.messages.proofs.delivery.+deliver_up.Given as goal

abbrev pub decreases-deliver_up : goal.decreases-deliver_up
decreases-deliver_up l = l.levels
