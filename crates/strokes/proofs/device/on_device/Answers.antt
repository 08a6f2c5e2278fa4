use Rattle.std.proofs.Common.{◌&&◌, sym, ap, ◌∙◌}
use Rattle.std.proofs.lemmas.Bool.{and_parts}
use Rattle.gfx_base.specs.declared.rect.Rect.{Rect}
use Rattle.gfx_base.specs.Rects.{has}
use Rattle.gfx_base.proofs.CallerLemmas.{has-empty}
use Rattle.exec_paint.proofs.CallerLemmas.{screen_is, on-screen}
use Rattle.scene.specs.Looks.{screen_with}
use Rattle.strokes.proofs.DeviceLemmas.{device_drawn, device_kept, seen_whole}
use Rattle.strokes.proofs.device.on_device.Goals as goal

pub returns-then-is_empty : goal.returns-then-is_empty
returns-then-is_empty c =
    let a = c.args in
    let p = a.device.now.picture in
    let whole = screen_is c.screen-whole.result p c.width.result c.height.result c.screen-whole.ensures c.width.ensures.value c.height.ensures in
    device_kept p a.assets.now a.context.now a.shape.now c.meet-area.result c.bounds.result c.width.ensures.shape
    (λ q. c.meet-area.ensures.points q ∙ ap (λ (r : Rect). has c.bounds.result q && has r q) whole) c.bounds.ensures.all
    (λ q. has-empty c.meet-area.result q (sym c.is_empty.ensures.value ∙ c.if-is_empty.true))

pub draw_stroke-requires-clause-area : goal.draw_stroke-requires-clause-area
draw_stroke-requires-clause-area c =
    let p = c.args.device.now.picture in
    let whole = screen_is c.screen-whole.result p c.width.result c.height.result c.screen-whole.ensures c.width.ensures.value c.height.ensures in
    on-screen p.width p.height c.meet-area.result
    (λ q h. (and_parts (has c.bounds.result q) (has (screen_with p.width p.height) q) (sym (c.meet-area.ensures.points q ∙ ap (λ (r : Rect). has c.bounds.result q && has r q) whole) ∙ h)).1) (sym c.is_empty.ensures.value ∙ c.if-is_empty.false)

pub draw_stroke-requires-clause-inside : goal.draw_stroke-requires-clause-inside
draw_stroke-requires-clause-inside c q h =
    let bounds = (and_parts (has c.bounds.result q) (has c.screen-whole.result q) (sym (c.meet-area.ensures.points q) ∙ h)).0 in
    rw (sym c.bounds.ensures.value, seen_whole q) bounds

pub returns : goal.returns
returns c =
    let a = c.args in
    let p = a.device.now.picture in
    let whole = screen_is c.screen-whole.result p c.width.result c.height.result c.screen-whole.ensures c.width.ensures.value c.height.ensures in
    device_drawn p a.assets.now a.context.now a.shape.now c.meet-area.result c.bounds.result c.width.ensures.shape
    (λ q. c.meet-area.ensures.points q ∙ ap (λ (r : Rect). has c.bounds.result q && has r q) whole) c.bounds.ensures.all c.draw_stroke.new.target.picture c.draw_stroke.ensures
