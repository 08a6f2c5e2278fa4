use Rattle.std.proofs.Common.{◌≡◌, pos}
use Rattle.gfx_base.specs.Rects.{point_at}
use Rattle.frame.specs.Pictures.{changed}
use Rattle.exec_paint.specs.Plans.{IsPlanFrom}
use Rattle.exec_paint.proofs.CallerLemmas.{to_row}
use Rattle.strokes.specs.Parts.{is_free, colour_copied}
use Rattle.strokes.proofs.copies.copy_free.Given as goal

abbrev pub invariant-loop-y : goal.invariant-loop-y
invariant-loop-y l = record {
  picture : l.target.picture ≡ changed l.fn.target.picture (to_row (λ u v. is_free l.area l.holes (point_at (pos u) (pos v))) l.y) (colour_copied l.from.picture l.corner);
  plan : IsPlanFrom l.y l.area l.holes l.plan;
}
