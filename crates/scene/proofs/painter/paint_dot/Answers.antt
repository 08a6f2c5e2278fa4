use Rattle.std.proofs.Common.{◌≡◌, ◌<◌, ℕ, pos, get_or, take, sym, ap, subst, ◌∙◌, arith}
use Rattle.std.proofs.lemmas.Int.{ints}
use Rattle.std.proofs.lemmas.Option.{slice_get-get_or}
use Rattle.gfx_base.specs.declared.point.Point.{Point}
use Rattle.gfx_base.specs.declared.rect.Rect.{Rect}
use Rattle.gfx_base.specs.Rects.{has, point_at}
use Rattle.gfx_base.proofs.CallerLemmas.{same_point}
use Rattle.frame.specs.Canvases.{Canvas}
use Rattle.frame.specs.Pictures.{Picture, HasShape, changed}
use Rattle.frame.specs.Areas.{is_at}
use Rattle.paint_ops.specs.Rows.{IsOrigin}
use Rattle.scene.specs.declared.win.Win.{Win}
use Rattle.scene.specs.Looks.{IsPaintable, looks_of}
use Rattle.scene.proofs.DotLemmas.{has_shape-dotted}
use Rattle.scene.specs.Places.{no_window}
use Rattle.scene.proofs.PainterLemmas.{all-at, corner_near, painted_first, clip_at, windows-step, windows-skip, windows-end}
use Rattle.scene.proofs.painter.paint_dot.Goals as goal
use Rattle.scene.proofs.painter.paint_dot.Goals.{then-has, else-has}

-- what stands for a clip where there is none
abbrev no_clip : Rect
no_clip = record { x0 = pos 0; y0 = pos 0; x1 = pos 0; y1 = pos 0 }

pub loop-i-init : goal.loop-i-init
loop-i-init c =
    ap (λ (f : Canvas). f.picture) c.put.ensures ∙ ap (λ (colour : ℕ). changed c.args.target.now.picture (is_at c.args.dot.x c.args.dot.y) (λ u v. colour)) c.default.ensures

pub paint_window-requires : goal.paint_window-requires
paint_window-requires c =
    let ws = c.args.stack.now in
    let i = c.loop-i.i in
    let w : Win = get_or ws i no_window in
    let test : c.has.result ≡ has (get_or c.args.clips.now i no_clip) (point_at (pos c.args.dot.x) (pos c.args.dot.y)) = c.has.ensures ∙ ap (has (get_or c.args.clips.now i no_clip)) (same_point _ _ _ _ (omega (arith, ints, c.from.ensures)) (omega (arith, ints, c.from-2.ensures))) in
    let here = sym (ap (λ r. has r (point_at (pos c.args.dot.x) (pos c.args.dot.y))) (clip_at c.args.screen.now ws c.args.clips.now i no_window no_clip c.loop-i-test.true c.requires.clips)) ∙ sym test ∙ c.if-has.true in
    let paintable = all-at (IsPaintable c.args.assets.now) ws i no_window c.requires.windows c.loop-i-test.true in
    let corner = c.origin.ensures w (slice_get-get_or ws i no_window c.loop-i-test.true) in
    let near = corner_near c.args.screen.now ws w c.args.dot.x c.args.dot.y paintable.width paintable.height (omega (arith, c.requires.inside.0, c.requires.shape.most_width)) (omega (arith, c.requires.inside.1, c.requires.shape.most_height)) here in
    record {
      assets = c.requires.assets;
      window = paintable;
      corner = subst (λ (p : Point). IsOrigin p.x × IsOrigin p.y) (sym corner) near;
      shape = subst HasShape (sym c.loop-i.invariant) (has_shape-dotted c.args.target.now.picture c.args.dot.x c.args.dot.y (painted_first (looks_of c.args.assets.now c.args.screen.now ws) (take i ws)) c.requires.shape);
      inside = subst (λ (p : Picture). (c.args.dot.x < p.width) × (c.args.dot.y < p.height)) (sym c.loop-i.invariant) c.requires.inside;
    }

pub loop-i-preserved : goal.loop-i-preserved
loop-i-preserved c =
    let ws = c.args.stack.now in
    let i = c.loop-i.i in
    let p = c.args.target.now.picture in
    let test : c.has.result ≡ has (get_or c.args.clips.now i no_clip) (point_at (pos c.args.dot.x) (pos c.args.dot.y)) = c.has.ensures ∙ ap (has (get_or c.args.clips.now i no_clip)) (same_point _ _ _ _ (omega (arith, ints, c.from.ensures)) (omega (arith, ints, c.from-2.ensures))) in
    let clip = sym (ap (λ r. has r (point_at (pos c.args.dot.x) (pos c.args.dot.y))) (clip_at c.args.screen.now ws c.args.clips.now i no_window no_clip c.loop-i-test.true c.requires.clips)) ∙ sym test in
    elim c.if-has.branch [
      | then-has w ↦
          ap (λ (f : Canvas). f.picture) w.target-is
          ∙ windows-step p c.loop-i.target.picture w.paint_window.new.target.picture c.args.assets.now c.args.screen.now ws no_window w.origin.result i c.args.dot.x c.args.dot.y c.requires.shape c.loop-i-test.true (clip ∙ w.if-has.true)
          (w.origin.ensures (get_or ws i no_window) (slice_get-get_or ws i no_window c.loop-i-test.true)) c.loop-i.invariant w.paint_window.ensures
      | else-has w ↦
          ap (λ (f : Canvas). f.picture) w.target-is
          ∙ windows-skip p c.loop-i.target.picture c.args.assets.now c.args.screen.now ws no_window i c.args.dot.x c.args.dot.y c.requires.shape c.loop-i-test.true (clip ∙ w.if-has.false) c.loop-i.invariant
    ]

pub returns : goal.returns
returns c = windows-end c.args.target.now.picture c.loop-i.target.picture (looks_of c.args.assets.now c.args.screen.now c.args.stack.now) c.args.stack.now c.loop-i.i c.args.dot.x c.args.dot.y c.loop-i-test.false c.loop-i.invariant
