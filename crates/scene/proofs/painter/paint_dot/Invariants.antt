use Rattle.std.proofs.Common.{◌≡◌, take}
use Rattle.scene.specs.Looks.{looks_of}
use Rattle.scene.proofs.DotLemmas.{dotted}
use Rattle.scene.proofs.PainterLemmas.{painted_first}
use Rattle.scene.proofs.painter.paint_dot.Given as goal

abbrev pub invariant-loop-i : goal.invariant-loop-i
invariant-loop-i l = l.target.picture ≡ dotted l.fn.target.picture l.dot.x l.dot.y (painted_first (looks_of l.assets l.screen l.stack) (take l.i l.stack))
