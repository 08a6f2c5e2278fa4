use Rattle.std.proofs.Common.{◌≡◌, ◌<◌, ℕ, List, pos, refl, sym, ap, subst, ◌∙◌, arith}
use Rattle.gfx_base.specs.declared.rect.Rect.{Rect}
use Rattle.gfx_base.specs.Rects.{point_at}
use Rattle.frame.specs.Pictures.{Picture, HasShape, changed}
use Rattle.frame.specs.Areas.{is_at}
use Rattle.frame.proofs.CallerLemmas.{has_shape-changed}
use Rattle.paint_ops.specs.Kinds.{Assets}
use Rattle.scene.specs.declared.win.Win.{Win}
use Rattle.scene.specs.Painting.{painted}
use Rattle.scene.specs.Looks.{screen_with, looks_of}
use Rattle.scene.proofs.DotLemmas.{before, dots-start, dots-row, dots-more, dots-row_end, dots-end}
use Rattle.scene.proofs.painter.paint_whole.Goals as goal

-- the painter's colour of each point
abbrev colours : Assets → List Win → Rect → ℕ → ℕ → ℕ
colours assets ws screen u v = painted (looks_of assets screen ws) ws (point_at (pos u) (pos v))

screen_is : (screen : Rect) (p : Picture) (width height : ℕ) → screen ≡ screen_with width height → width ≡ p.width → height ≡ p.height → screen ≡ screen_with p.width p.height
screen_is screen p width height e w h = e ∙ rw (w, h) refl

pub loop-y-init : goal.loop-y-init
loop-y-init c =
    let p = c.args.target.now.picture in
    dots-start p (colours c.args.assets.now c.args.stack.now (screen_with p.width p.height)) c.width.ensures.shape

pub loop-x-init : goal.loop-x-init
loop-x-init c =
    let p = c.args.target.now.picture in
    c.loop-y.invariant ∙ dots-row p c.loop-y.y (colours c.args.assets.now c.args.stack.now (screen_with p.width p.height)) c.width.ensures.shape

pub paint_dot-requires : goal.paint_dot-requires
paint_dot-requires c =
    let p = c.args.target.now.picture in
    let f = colours c.args.assets.now c.args.stack.now (screen_with p.width p.height) in
    let screen = screen_is c.screen-screen.result p c.width.result c.height.result c.screen-screen.ensures c.width.ensures.value c.height.ensures in
    let wide : c.width-x-end.result ≡ p.width = c.width-x-end.ensures.value ∙ ap (λ (q : Picture). q.width) c.loop-y.invariant in
    record {
      assets = c.requires.assets;
      windows = c.requires.windows;
      screen = subst (λ (q : Picture). c.screen-screen.result ≡ screen_with q.width q.height) (sym c.loop-x.invariant) screen;
      few = c.requires.few;
      clips = c.clips_by_place-clips.ensures;
      shape = subst HasShape (sym c.loop-x.invariant) (has_shape-changed p (before c.loop-x.x c.loop-y.y) f c.width.ensures.shape);
      inside = subst (λ (q : Picture). (c.loop-x.x < q.width) × (c.loop-y.y < q.height)) (sym c.loop-x.invariant) (omega (arith, c.loop-x-test.true, wide), omega (arith, c.loop-y-test.true, c.height-y-end.ensures));
    }

pub loop-x-preserved : goal.loop-x-preserved
loop-x-preserved c =
    let p = c.args.target.now.picture in
    let f = colours c.args.assets.now c.args.stack.now (screen_with p.width p.height) in
    let screen = screen_is c.screen-screen.result p c.width.result c.height.result c.screen-screen.ensures c.width.ensures.value c.height.ensures in
    c.paint_dot.ensures
    ∙ ap (λ (r : Rect). changed c.loop-x.target.picture (is_at c.loop-x.x c.loop-y.y) (colours c.args.assets.now c.args.stack.now r)) screen
    ∙ ap (λ (q : Picture). changed q (is_at c.loop-x.x c.loop-y.y) f) c.loop-x.invariant
    ∙ dots-more p c.loop-x.x c.loop-y.y f c.width.ensures.shape

pub loop-y-preserved : goal.loop-y-preserved
loop-y-preserved c =
    let p = c.args.target.now.picture in
    let wide : c.width-x-end.result ≡ p.width = c.width-x-end.ensures.value ∙ ap (λ (q : Picture). q.width) c.loop-y.invariant in
    c.loop-x.invariant ∙ dots-row_end p c.loop-x.x c.loop-y.y (colours c.args.assets.now c.args.stack.now (screen_with p.width p.height)) c.width.ensures.shape (omega (arith, wide, c.loop-x-test.false))

pub returns : goal.returns
returns c =
    let p = c.args.target.now.picture in
    c.loop-y.invariant ∙ dots-end p c.loop-y.y (colours c.args.assets.now c.args.stack.now (screen_with p.width p.height)) c.width.ensures.shape (omega (arith, c.loop-y-test.false, c.height-y-end.ensures))
