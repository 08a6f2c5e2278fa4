use Rattle.std.proofs.Common.{◌≡◌}
use Rattle.window_list.proofs.StepLemmas.{mixed}
use Rattle.window_list.proofs.windows.put_back.Given as goal

abbrev pub invariant-loop-i : goal.invariant-loop-i
invariant-loop-i l = l.tree ≡ record l.fn.tree { windows = mixed l.i l.new l.old }
