use Rattle.strokes.specs.Strokes.{colour_of_stroke}
use Rattle.scene.specs.Looks.{screen_with, looks_of}
use Rattle.strokes.proofs.VisibleLemmas.{ink_picture, ink_tiles, unseen_picture, unseen_tiles}
use Rattle.strokes.proofs.screen.on_screen.Goals as goal

pub returns-in_default-clause-picture : goal.returns-in_default-clause-picture
returns-in_default-clause-picture c =
    let a = c.args in
    let p = a.target.now.picture in
    let none = rw (c.width-width.ensures.value, c.height-height.ensures) at c.in_default.ensures.none in
    unseen_picture p.width p.height (looks_of a.assets.now (screen_with p.width p.height) a.stack.now) a.stack.now a.i c.bounds-bounds.result (colour_of_stroke a.assets.now a.context.now a.shape.now) c.bounds-bounds.ensures.all p c.width-width.ensures.shape none

pub returns-in_default-clause-tiles : goal.returns-in_default-clause-tiles
returns-in_default-clause-tiles c =
    let a = c.args in
    let p = a.target.now.picture in
    let none = rw (c.width-width.ensures.value, c.height-height.ensures) at c.in_default.ensures.none in
    unseen_tiles p.width p.height (looks_of a.assets.now (screen_with p.width p.height) a.stack.now) a.stack.now a.i c.bounds-bounds.result (colour_of_stroke a.assets.now a.context.now a.shape.now) c.bounds-bounds.ensures.all p.width p.height c.empty.result c.empty.ensures none

pub returns-clause-picture : goal.returns-clause-picture
returns-clause-picture c =
    let a = c.args in
    let p = a.target.now.picture in
    let visible = rw (c.width-width.ensures.value, c.height-height.ensures) at c.in-Some.ensures.some in
    ink_picture p.width p.height (looks_of a.assets.now (screen_with p.width p.height) a.stack.now) a.stack.now a.i c.bounds-bounds.result (colour_of_stroke a.assets.now a.context.now a.shape.now) c.bounds-bounds.ensures.all p c.draw_stroke.new.target.picture c.in-Some.part c.visible_part.new.holes.items c.width-width.ensures.shape visible (rw c.as_slice-holes.ensures.value at c.draw_stroke.ensures)

pub returns-clause-tiles : goal.returns-clause-tiles
returns-clause-tiles c =
    let a = c.args in
    let p = a.target.now.picture in
    let visible = rw (c.width-width.ensures.value, c.height-height.ensures) at c.in-Some.ensures.some in
    ink_tiles p.width p.height (looks_of a.assets.now (screen_with p.width p.height) a.stack.now) a.stack.now a.i c.bounds-bounds.result (colour_of_stroke a.assets.now a.context.now a.shape.now) c.bounds-bounds.ensures.all p.width p.height c.in-Some.part c.visible_part.new.holes.items c.stroke_tiles.result visible (rw (c.as_slice-holes.ensures.value, c.width-width.ensures.value, c.height-height.ensures) at c.stroke_tiles.ensures)
