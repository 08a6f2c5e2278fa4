use Rattle.gfx_base.proofs.CallerLemmas.{same_point}
use Rattle.paint_ops.proofs.PaneLemmas.{sum_is, sum_near}
use Rattle.paint_ops.proofs.pane.Pane.corner.Goals as goal

pub returns : goal.returns
returns c =
    let o = c.args.self.now.origin in
    let x = sum_is o.x c.number.result _ c.requires.pane.x c.number.ensures.range c.number.ensures.value in
    let y = sum_is o.y c.number-2.result _ c.requires.pane.y c.number-2.ensures.range c.number-2.ensures.value in
    let xs = sum_near o.x c.number.result _ c.requires.pane.x c.number.ensures.range c.number.ensures.value in
    let ys = sum_near o.y c.number-2.result _ c.requires.pane.y c.number-2.ensures.range c.number-2.ensures.value in
    record { value = same_point _ _ _ _ x y; range = (rw x xs, rw y ys) }
