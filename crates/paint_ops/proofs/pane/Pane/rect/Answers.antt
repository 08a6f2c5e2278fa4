use Rattle.gfx_base.proofs.CallerLemmas.{same_rect}
use Rattle.paint_ops.proofs.PaneLemmas.{sum_is}
use Rattle.paint_ops.proofs.pane.Pane.rect.Goals as goal

pub returns : goal.returns
returns c =
    let o = c.args.self.now.origin in
    let p = c.requires.pane in
    same_rect _ _ _ _ _ _ _ _ (sum_is o.x c.number.result _ p.x c.number.ensures.range c.number.ensures.value) (sum_is o.y c.number-2.result _ p.y c.number-2.ensures.range c.number-2.ensures.value)
    (sum_is o.x c.number-3.result _ p.x c.number-3.ensures.range c.number-3.ensures.value) (sum_is o.y c.number-4.result _ p.y c.number-4.ensures.range c.number-4.ensures.value)
