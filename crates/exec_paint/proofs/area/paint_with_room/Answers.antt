use Rattle.std.proofs.Common.{◌≡◌, Some, ◌+◌, refl, ap, pos, subst, drop, ◌∙◌, true}
use Rattle.gfx_base.specs.declared.point.Point.{Point}
use Rattle.gfx_base.specs.declared.rect.Rect.{Rect}
use Rattle.gfx_base.specs.Rects.{has, point_at}
use Rattle.scene.specs.Looks.{looks_of}
use Rattle.scene.specs.Painting.{windows_at, hides_behind, painted}
use Rattle.exec_paint.specs.Areas.{is_open}
use Rattle.exec_paint.proofs.AreaLemmas.{looks_on, screen_is, closed, area-closed}
use Rattle.exec_paint.proofs.WriteLemmas.{written-none}
use Rattle.exec_paint.proofs.area.paint_with_room.Goals as goal

pub returns-then-hidden-clause-painted : goal.returns-then-hidden-clause-painted
returns-then-hidden-clause-painted g c =
    let a = c.args in
    let p = a.target.now.picture in
    let ws = a.stack.now in
    let above = drop (a.which + 1) ws in
    let looks = looks_on a.assets.now ws p in
    let screen = screen_is c.screen-screen.result p c.width.result c.height.result c.screen-screen.ensures c.width.ensures.value c.height.ensures in
    let one : c.take_above.result ≡ Some true = c.in_ok-hidden.was ∙ ap Some c.if-hidden.true in
    let hides : (r : Point) → has a.area.now r ≡ true → hides_behind looks (windows_at looks above r) ≡ true =
    λ r here. subst (λ (s : Rect). hides_behind (looks_of a.assets.now s ws) (windows_at (looks_of a.assets.now s ws) above r) ≡ true) screen (c.take_above.ensures.hidden one r here) in
    let none = λ (r : Point). closed looks above a.area.now r (hides r) in
    record {
      picture = area-closed p looks ws above a.area.now c.requires.shape none;
      once = λ composes. written-none a.target.now (λ x y. is_open looks above a.area.now (point_at (pos x) (pos y))) (λ x y. painted looks ws (point_at (pos x) (pos y))) c.requires.shape c.frame_is_sound.ensures.count (λ x y x_in y_in. none (point_at (pos x) (pos y)));
      sides = (refl, refl);
      unused = λ straight. refl;
    }
