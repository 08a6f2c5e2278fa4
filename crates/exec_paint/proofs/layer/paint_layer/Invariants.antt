use Rattle.std.proofs.Common.{◌≡◌, pos}
use Rattle.gfx_base.specs.Rects.{point_at}
use Rattle.paint_ops.proofs.CallerLemmas.{in_first}
use Rattle.scene.specs.Looks.{looks_of, screen_with}
use Rattle.exec_paint.specs.Rows.{row_mapped}
use Rattle.exec_paint.specs.Layers.{window_at, over_window}
use Rattle.exec_paint.proofs.layer.paint_layer.Given as goal

abbrev pub invariant-loop-span : goal.invariant-loop-span
invariant-loop-span l = l.target.picture ≡ row_mapped l.fn.target.picture l.y (in_first l.spans l.span-index) (λ u old. over_window (looks_of l.assets (screen_with l.fn.target.picture.width l.fn.target.picture.height) l.stack) (window_at l.stack l.layer) (point_at (pos u) (pos l.y)) old)
