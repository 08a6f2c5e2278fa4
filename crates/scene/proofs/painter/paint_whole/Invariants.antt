use Rattle.std.proofs.Common.{◌≡◌, pos}
use Rattle.gfx_base.specs.Rects.{point_at}
use Rattle.scene.specs.Painting.{painted}
use Rattle.scene.specs.Looks.{screen_with, looks_of}
use Rattle.scene.proofs.DotLemmas.{rows_done, dots_done}
use Rattle.scene.proofs.painter.paint_whole.Given as goal

abbrev pub invariant-loop-y : goal.invariant-loop-y
invariant-loop-y l = l.target.picture ≡ rows_done l.fn.target.picture l.y (λ u v. painted (looks_of l.assets (screen_with l.fn.target.picture.width l.fn.target.picture.height) l.stack) l.stack (point_at (pos u) (pos v)))

abbrev pub invariant-loop-x : goal.invariant-loop-x
invariant-loop-x l = l.target.picture ≡ dots_done l.fn.target.picture l.x l.y (λ u v. painted (looks_of l.assets (screen_with l.fn.target.picture.width l.fn.target.picture.height) l.stack) l.stack (point_at (pos u) (pos v)))
