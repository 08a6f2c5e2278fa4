use Rattle.std.proofs.Common.{◌≡◌, ◌&&◌, pos}
use Rattle.std.specs.Prelude.{is_some, unwrap_or}
use Rattle.frame.specs.Pictures.{Picture, changed}
use Rattle.gfx_base.specs.Rects.{point_at}
use Rattle.paint_ops.specs.Operations.{Inputs}
use Rattle.paint_ops.specs.Rows.{colour_on_screen}
use Rattle.exec_paint.specs.Plans.{IsPlanFrom}
use Rattle.exec_paint.proofs.CallerLemmas.{to_row}
use Rattle.strokes.specs.Parts.{is_free}
use Rattle.strokes.proofs.drawing.draw_rows.Given as goal

abbrev pub invariant-loop-y : goal.invariant-loop-y
invariant-loop-y l =
    let p : Picture = l.fn.target.picture in
    let inputs : Inputs = record { values = l.values; width = l.width; height = l.height } in
    record {
      picture : l.target.picture ≡ changed p (to_row (λ u v. is_free l.area l.holes (point_at (pos u) (pos v)) && is_some (colour_on_screen l.assets inputs l.op l.origin u v)) l.y) (λ u v. unwrap_or (colour_on_screen l.assets inputs l.op l.origin u v) 0);
      plan : IsPlanFrom l.y l.area l.holes l.plan;
    }
