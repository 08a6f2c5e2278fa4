use Rattle.window_tests.proofs.painter.middle.Goals as goal

pub returns : goal.returns
returns c = λ assets. (c.plain.ensures, c.plain-2.ensures, c.plain-3.ensures, c.plain-4.ensures)
