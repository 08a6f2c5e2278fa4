use Rattle.std.proofs.Common.{arith}
use Rattle.window_tests.proofs.painter.bar.Goals as goal

pub returns : goal.returns
returns c = λ assets. (c.plain.ensures, c.plain-2.ensures, omega arith, c.plain-3.ensures)
