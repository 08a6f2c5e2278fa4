use Rattle.std.proofs.Common.{◌≡◌, length, drop}
use Rattle.desk.specs.Windows.{are_as_they_were}
use Rattle.window_list.proofs.windows.are_as_they_were.Given as goal

abbrev pub invariant-loop-i : goal.invariant-loop-i
invariant-loop-i l = record {
  same : length l.old ≡ length l.new;
  rest : are_as_they_were l.old l.new ≡ are_as_they_were (drop l.i l.old) (drop l.i l.new);
}
