use Rattle.std.proofs.Common.{ap, ◌∙◌, [], w32, arith}
use Rattle.std.proofs.lemmas.Int.{ints, to_z-of_z}
use mir.Val.{SFits}
use Rattle.paint_ops.specs.Kinds.{Assets, no_bitmap, no_font}
use Rattle.paint_ops.specs.Panes.{inputs_of_pane}
use Rattle.paint_ops.proofs.ScreenLemmas.{element_is, put-fill, put-frame, put-hline, put-vline, put-line, put-bitmap, put-text, put-number}
use Rattle.paint_ops.proofs.drawing.draw_in.Goals as goal

pub returns-in-Fill : goal.returns-in-Fill
returns-in-Fill c =
    let a = c.args in
    let w = c.in-Fill in
    put-fill a.assets.now (inputs_of_pane a.pane.now) a.op.now a.pane.now.origin a.target.now c.fill_rect.new.target a.strip c.requires.strip.shape w.x0 w.y0 w.x1 w.y1 w.colour c.rect.result w.is c.rect.ensures c.fill_rect.ensures

pub returns-in-Frame : goal.returns-in-Frame
returns-in-Frame c =
    let a = c.args in
    let w = c.in-Frame in
    put-frame a.assets.now (inputs_of_pane a.pane.now) a.op.now a.pane.now.origin a.target.now c.draw_edge.new.target a.strip c.requires.strip.shape w.x0 w.y0 w.x1 w.y1 w.colour c.rect-in-Frame.result w.is c.rect-in-Frame.ensures c.draw_edge.ensures

pub returns-in-HLine : goal.returns-in-HLine
returns-in-HLine c =
    let a = c.args in
    let w = c.in-HLine in
    put-hline a.assets.now (inputs_of_pane a.pane.now) a.op.now a.pane.now.origin a.target.now c.fill_rect-in-HLine.new.target a.strip c.requires.strip.shape w.x0 w.x1 w.y w.colour c.rect-in-HLine.result w.is c.rect-in-HLine.ensures c.fill_rect-in-HLine.ensures

pub returns-in-VLine : goal.returns-in-VLine
returns-in-VLine c =
    let a = c.args in
    let w = c.in-VLine in
    put-vline a.assets.now (inputs_of_pane a.pane.now) a.op.now a.pane.now.origin a.target.now c.fill_rect-in-VLine.new.target a.strip c.requires.strip.shape w.x w.y0 w.y1 w.colour c.rect-in-VLine.result w.is c.rect-in-VLine.ensures c.fill_rect-in-VLine.ensures

pub returns-in-Line : goal.returns-in-Line
returns-in-Line c =
    let a = c.args in
    let w = c.in-Line in
    put-line a.assets.now (inputs_of_pane a.pane.now) a.op.now a.pane.now.origin a.target.now c.draw_line.new.target a.strip c.requires.strip.shape w.x0 w.y0 w.x1 w.y1 w.colour c.place.result c.place-in-Line.result w.is c.place.ensures.value c.place-in-Line.ensures.value c.draw_line.ensures

pub returns-in-Bitmap : goal.returns-in-Bitmap
returns-in-Bitmap c =
    let a = c.args in
    let w = c.in-Bitmap in
    let o = rw w.is at c.requires.operation in
    let bitmap = element_is _ a.assets.now.bitmaps w.bitmap c.index.result.now no_bitmap (ap (λ (x : Assets). x.bitmaps) c.assets.view_is) o.0 (rw c.from.ensures at c.index.ensures) in
    put-bitmap a.assets.now (inputs_of_pane a.pane.now) a.op.now a.pane.now.origin a.target.now c.draw_bitmap.new.target a.strip c.requires.strip.shape w.bitmap w.x w.y c.index.result.now c.corner.result w.is c.corner.ensures.value bitmap c.draw_bitmap.ensures

pub returns-in-Text : goal.returns-in-Text
returns-in-Text c =
    let a = c.args in
    let w = c.in-Text in
    let o = rw w.is at c.requires.operation in
    let string = element_is _ a.assets.now.strings w.string c.index-in-Text.result.now [] (ap (λ (x : Assets). x.strings) c.assets.view_is) o.3 (rw c.from-in-Text.ensures at c.index-in-Text.ensures) in
    let font = element_is _ a.assets.now.fonts w.font c.index-in-Text-2.result.now no_font (ap (λ (x : Assets). x.fonts) c.assets.view_is) o.0 (rw c.from-in-Text-2.ensures at c.index-in-Text-2.ensures) in
    put-text a.assets.now (inputs_of_pane a.pane.now) a.op.now a.pane.now.origin a.target.now c.draw_text.new.target a.strip c.requires.strip.shape w.font w.x w.y w.colour w.string c.index-in-Text-2.result.now c.bytes-text.result.now c.corner-in-Text.result w.is c.corner-in-Text.ensures.value font (c.bytes-text.ensures.value ∙ string) c.draw_text.ensures

pub returns-in-Number : goal.returns-in-Number
returns-in-Number c =
    let a = c.args in
    let w = c.in-Number in
    let o = rw w.is at c.requires.operation in
    let n : SFits w32 c.number.result = omega (arith, ints) in
    let font = element_is _ a.assets.now.fonts w.font c.index-in-Number.result.now no_font (ap (λ (x : Assets). x.fonts) c.assets.view_is) o.0 (rw c.from-in-Number.ensures at c.index-in-Number.ensures) in
    put-number a.assets.now (inputs_of_pane a.pane.now) a.op.now a.pane.now.origin a.target.now c.draw_number.new.target a.strip c.requires.strip.shape w.font w.x w.y w.colour w.num c.index-in-Number.result.now c.number.result c.corner-in-Number.result w.is c.corner-in-Number.ensures.value font c.number.ensures.value (simp to_z-of_z at c.draw_number.ensures)
