use Rattle.std.proofs.Common.{◌≡◌, take}
use Rattle.scene.specs.Looks.{inputs_of}
use Rattle.scene.proofs.CallerLemmas.{drawn_over}
use Rattle.exec_paint.specs.Rows.{row_mapped, in_run}
use Rattle.exec_paint.proofs.run.draw_class.Given as goal

abbrev pub invariant-loop-op : goal.invariant-loop-op
invariant-loop-op l = l.target.picture ≡ row_mapped l.fn.target.picture l.run.y (in_run l.run) (λ u old. drawn_over l.assets (inputs_of l.window) l.corner (take l.op-index l.class.ops) u l.run.y old)
