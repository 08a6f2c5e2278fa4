use Rattle.std.proofs.Common.{◌≡◌, refl, ap, ◌∙◌}
use Rattle.gfx_base.specs.declared.point.Point.{Point}
use Rattle.gfx_base.proofs.CallerLemmas.{same_point}
use Rattle.strokes.specs.Parts.{turned}
use Rattle.strokes.proofs.LineLemmas.{sum_is, turned_short}
use Rattle.strokes.proofs.lines.on_screen.Goals as goal
use Rattle.strokes.proofs.lines.on_screen.Goals.{then-is_steep, else-is_steep}

pub returns : goal.returns
returns c =
    let a = c.args in
    let p : c.if-is_steep.p ≡ turned a.is_steep a.p =
    elim c.if-is_steep.branch [
      | then-is_steep w ↦ w.p-is ∙ w.flipped-p.ensures ∙ rw w.if-is_steep.true refl
      | else-is_steep w ↦ w.p-is ∙ rw w.if-is_steep.false refl
    ] in
    let short = turned_short a.is_steep a.p c.requires.point in
    same_point _ _ _ _ (sum_is a.corner.x c.if-is_steep.p.x (turned a.is_steep a.p).x c.requires.corner.0 short.0 (ap (λ (q : Point). q.x) p)) (sum_is a.corner.y c.if-is_steep.p.y (turned a.is_steep a.p).y c.requires.corner.1 short.1 (ap (λ (q : Point). q.y) p))
