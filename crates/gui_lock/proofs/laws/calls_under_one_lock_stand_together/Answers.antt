use Rattle.gui_lock.proofs.BlockLemmas.{alone_seeing, alone_acting, alone_waiting, alone_unlocking, alone_together}
use Rattle.gui_lock.proofs.laws.calls_under_one_lock_stand_together.Goals as goal

pub returns : goal.returns
returns g c = record {
  lock = alone_seeing;
  apply = alone_acting;
  wait = alone_waiting;
  unlock = alone_unlocking;
  together = alone_together;
}
