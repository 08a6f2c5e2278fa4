use Rattle.std.proofs.Common.{◌≡◌, ◌+◌, true, false, pos, drop}
use Rattle.exec_paint.specs.Plans.{IsPlanFrom}
use Rattle.gfx_base.specs.Rects.{point_at}
use Rattle.frame.specs.Pictures.{Picture, HasShape, changed}
use Rattle.scene.specs.Looks.{looks_of, screen_with}
use Rattle.scene.specs.Painting.{painted}
use Rattle.exec_paint.specs.Areas.{is_open}
use Rattle.exec_paint.specs.Writes.{HaveSameSides, written_once}
use Rattle.gfx_base.specs.TileSets.{AreTilesOf}
use Rattle.exec_paint.proofs.AreaLemmas.{to_row}
use Rattle.exec_paint.proofs.area.paint_rows.Given as goal

abbrev pub invariant-loop-y : goal.invariant-loop-y
invariant-loop-y l =
    let p : Picture = l.fn.target.picture in
    let looks = looks_of l.assets (screen_with p.width p.height) l.stack in
    record {
      picture : l.target.picture ≡ changed p (to_row (λ u v. is_open looks (drop (l.which + 1) l.stack) l.area (point_at (pos u) (pos v))) l.y) (λ u v. painted looks l.stack (point_at (pos u) (pos v)));
      once : l.composed ≡ true → l.target ≡ written_once l.fn.target (to_row (λ u v. is_open looks (drop (l.which + 1) l.stack) l.area (point_at (pos u) (pos v))) l.y) (λ u v. painted looks l.stack (point_at (pos u) (pos v)));
      sides : HaveSameSides l.device.picture l.fn.device.picture;
      shape : HasShape l.device.picture;
      unused : l.composed ≡ false → l.device ≡ l.fn.device;
      tiles : AreTilesOf p.width p.height (to_row (λ u v. is_open looks (drop (l.which + 1) l.stack) l.area (point_at (pos u) (pos v))) l.y) l.tiles;
      plan : IsPlanFrom l.y l.area l.holes l.plan;
    }
