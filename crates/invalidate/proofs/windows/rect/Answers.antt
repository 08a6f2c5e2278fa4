use Rattle.std.proofs.Common.{◌≡◌, Some, get_or, set, ap, sym, ◌∙◌, subst}
use Rattle.std.specs.Prelude.{slice_get}
use Rattle.std.proofs.lemmas.Option.{slice_get-get_or}
use Rattle.gfx_base.specs.declared.point.Point.{Point}
use Rattle.gfx_base.specs.Range.{IsNear}
use Rattle.gfx_base.specs.Rects.{is_empty, shift}
use Rattle.scene.specs.Places.{no_window}
use Rattle.scene.specs.Clips.{clip_in}
use Rattle.invalidate.specs.Invalidation.{on_screen}
use Rattle.invalidate.proofs.RectLemmas.{rect_unchanged, invalidated_is, corner_is_near}
use Rattle.invalidate.proofs.windows.rect.Goals as goal

pub returns-then-is_empty : goal.returns-then-is_empty
returns-then-is_empty c = λ w at.
    rect_unchanged c.args.stack.now c.args.i w (clip_in c.args.screen.now c.args.stack.now w) (on_screen c.args.stack.now w c.args.local.now) at
    (sym (ap is_empty (c.ground-clip.ensures w at)) ∙ sym c.is_empty.ensures.value ∙ c.if-is_empty.true)

pub moved-area-requires-clause-corner : goal.moved-area-requires-clause-corner
moved-area-requires-clause-corner c =
    let ws = c.args.stack.now in
    let w = get_or ws c.args.i no_window in
    let at : slice_get ws c.args.i ≡ Some w = slice_get-get_or ws c.args.i no_window c.requires.place in
    let P : Point → Type 0 = λ p. IsNear p.x × IsNear p.y in
    subst P (sym (c.origin-corner.ensures w at))
    (corner_is_near c.args.screen.now ws c.args.i w c.requires.stack c.requires.screen at
    (sym (ap is_empty (c.ground-clip.ensures w at)) ∙ sym c.is_empty.ensures.value ∙ c.if-is_empty.false))

pub returns : goal.returns
returns c = λ w at.
    ap (set c.args.stack.now c.args.i)
    (c.grow.ensures
    ∙ invalidated_is c.args.stack.now c.args.i w no_window c.ground-clip.result (clip_in c.args.screen.now c.args.stack.now w) c.moved-area.result (on_screen c.args.stack.now w c.args.local.now) at (c.ground-clip.ensures w at)
    (c.moved-area.ensures ∙ ap (λ (p : Point). shift c.args.local.now p.x p.y) (c.origin-corner.ensures w at)))
