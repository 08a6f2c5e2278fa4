use Rattle.std.proofs.Common.{◌≡◌, take}
use Rattle.scene.specs.Looks.{inputs_of}
use Rattle.scene.proofs.DotLemmas.{dotted}
use Rattle.scene.proofs.PainterLemmas.{drawn_over}
use Rattle.scene.proofs.painter.draw_class.Given as goal

abbrev pub invariant-loop-op : goal.invariant-loop-op
invariant-loop-op l = l.target.picture ≡ dotted l.fn.target.picture l.dot.x l.dot.y (drawn_over l.assets (inputs_of l.window) l.corner (take l.op-index l.class.ops))
