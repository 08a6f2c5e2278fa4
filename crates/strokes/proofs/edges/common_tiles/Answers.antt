use Rattle.std.proofs.Common.{sym, ◌∙◌}
use Rattle.std.proofs.lemmas.Bool.{and_parts}
use Rattle.exec_paint.proofs.CallerLemmas.{on-screen}
use Rattle.strokes.proofs.TileLemmas.{on-inside}
use Rattle.strokes.proofs.edges.common_tiles.Goals as goal

pub free_tiles-requires-clause-area : goal.free_tiles-requires-clause-area
free_tiles-requires-clause-area c =
    let a = c.args in
    on-screen a.width a.height c.meet-both.result
    (λ p h. on-inside a.width a.height a.area.now p c.requires.area (and_parts _ _ (sym (c.meet-both.ensures.points p) ∙ h)).0)
    (sym c.is_empty.ensures.value ∙ c.if-is_empty.false)
