use Rattle.std.proofs.Common.{◌≡◌, [], true, get_or, sym, ap, ◌∙◌}
use Rattle.gfx_base.specs.declared.rect.Rect.{Rect}
use Rattle.gfx_base.specs.Rects.{has}
use Rattle.scene.specs.Clips.{clip_in}
use Rattle.scene.specs.Looks.{is_opaque, looks_of}
use Rattle.scene.specs.Painting.{painted}
use Rattle.scene.specs.Places.{no_window}
use Rattle.exec_paint.specs.Layers.{windows_in}
use Rattle.exec_paint.proofs.PlanLemmas.{covers-points, base-colours, open-taken}
use Rattle.exec_paint.proofs.plan.add_over.Goals as goal

pub returns-then-covers-clause-colours : goal.returns-then-covers-clause-colours
returns-then-covers-clause-colours g c = λ p old here clear.
    let a = c.args in
    let ws = a.stack.now in
    let looks = looks_of a.assets.now a.screen.now ws in
    let w = get_or ws a.i no_window in
    let opaque : is_opaque a.assets.now w ≡ true = ap (is_opaque a.assets.now) (sym c.window_of.ensures) ∙ sym c.is_opaque.ensures ∙ c.if-is_opaque.true in
    let at : has (clip_in a.screen.now ws w) p ≡ true = ap (λ (r : Rect). has r p) (sym c.requires.clip) ∙ covers-points a.spot.now.clip a.area.now p (sym c.covers.ensures ∙ c.if-covers.true) here in
    rw (c.in_ok-add_layer.ensures.windows, c.clear.ensures)
    (open-taken looks ws p (painted looks ws p) old a.i [] c.requires.at (base-colours a.assets.now a.screen.now ws a.i p old c.requires.at opaque at))

pub returns-clause-colours : goal.returns-clause-colours
returns-clause-colours g c = λ p old here clear.
    let a = c.args in
    let ws = a.stack.now in
    let looks = looks_of a.assets.now a.screen.now ws in
    rw c.in_ok-add_layer-2.ensures.windows
    (open-taken looks ws p (painted looks ws p) _ a.i (windows_in ws a.layers.now.items) c.requires.at (c.requires.colours p old here clear))
