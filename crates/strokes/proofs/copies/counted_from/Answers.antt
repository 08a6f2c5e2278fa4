use Rattle.std.proofs.Common.{rules, w16, SFits, ◌∙◌}
use Rattle.std.proofs.lemmas.Int.{to_z-of_z}
use Rattle.gfx_base.proofs.CallerLemmas.{same_point}
use Rattle.strokes.proofs.CopyLemmas.{sum_is}
use Rattle.strokes.proofs.copies.counted_from.Goals as goal

pub returns-clause-value : goal.returns-clause-value
returns-clause-value c =
    let a = c.args in
    let f : SFits w16 a.x = search rules in
    let g : SFits w16 a.y = search rules in
    let x = c.from.ensures ∙ to_z-of_z w16 a.x f in
    let y = c.from-2.ensures ∙ to_z-of_z w16 a.y g in
    same_point _ _ _ _ (sum_is a.corner.x c.from.result a.x c.requires.0 x f) (sum_is a.corner.y c.from-2.result a.y c.requires.1 y g)
