use Rattle.std.proofs.Common.{◌≡◌, refl, sym, ap, ◌∙◌, w16, SFits, rules}
use Rattle.std.proofs.lemmas.Int.{to_z-of_z}
use Rattle.gfx_base.specs.declared.rect.Rect.{Rect}
use Rattle.gfx_base.specs.Rects.{has}
use Rattle.strokes.specs.Parts.{block_of}
use Rattle.strokes.proofs.CopyLemmas.{copy_points}
use Rattle.strokes.proofs.bounds.points_of_picture.Goals as goal

pub returns-clause-all : goal.returns-clause-all
returns-clause-all c p =
    let a = c.args in
    let f0 : SFits w16 a.x = search rules in
    let f1 : SFits w16 a.y = search rules in
    let block : c.block.result ≡ block_of a.x a.y c.width-width.result c.height.result = simp to_z-of_z at c.block.ensures.value in
    copy_points a.picture.now.picture a.x a.y p ∙ sym (ap (λ (r : Rect). has r p) (block ∙ rw (c.width-width.ensures.value, c.height.ensures) refl))
