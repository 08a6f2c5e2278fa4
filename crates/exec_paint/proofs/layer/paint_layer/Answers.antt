use Rattle.std.proofs.Common.{◌≡◌, ℕ, Bool, ◌<◌, ◌&&◌, true, false, pos, get_or, Option, Some, None, refl, sym, ap, subst, ◌∙◌, arith}
use Rattle.std.specs.Prelude.{unwrap_or}
use Rattle.gfx_base.specs.declared.point.Point.{Point}
use Rattle.paint_ops.specs.Operations.{seen_from}
use Rattle.paint_ops.specs.Rows.{IsOrigin}
use Rattle.frame.specs.Canvases.{Canvas}
use Rattle.frame.specs.Pictures.{HasShape}
use Rattle.gfx_base.specs.Range.{is_within}
use Rattle.gfx_base.specs.Rects.{has, point_at}
use Rattle.gfx_base.specs.declared.rect.Rect.{Rect}
use Rattle.region.specs.declared.span.Span.{Span}
use Rattle.region.specs.Spans.{in_span}
use Rattle.paint_ops.proofs.CallerLemmas.{in_first}
use Rattle.scene.specs.declared.win.Win.{Win}
use Rattle.scene.specs.Clips.{clip_in}
use Rattle.scene.specs.Looks.{IsPaintable, colour_in_window, looks_of, screen_with}
use Rattle.scene.proofs.CallerLemmas.{all-at}
use Rattle.exec_paint.specs.declared.run.Run.{Run}
use Rattle.exec_paint.specs.Rows.{row_mapped, in_run, in_some_run}
use Rattle.scene.specs.Places.{no_window}
use Rattle.exec_paint.specs.Layers.{window_at, over_window}
use Rattle.exec_paint.proofs.RowLemmas.{has_shape-row_mapped}
use Rattle.exec_paint.proofs.LayerLemmas.{in-clip, layer-off_row, layer-start, layer-some, layer-none, layer-end, layer-near}
use Rattle.exec_paint.proofs.layer.paint_layer.Goals as goal
use Rattle.exec_paint.proofs.layer.paint_layer.Goals.{in-Some, in_default}

abbrev no_span : Span
no_span = record { x0 = pos 0; x1 = pos 0 }

off : (a b : Rect) (y : ℕ) (t : Bool) → a ≡ b → t ≡ is_within a.y0 a.y1 (pos y) → t ≡ false → is_within b.y0 b.y1 (pos y) ≡ false
off a b y t same is e = subst (λ (r : Rect). is_within r.y0 r.y1 (pos y) ≡ false) same (sym is ∙ e)

pub returns-then-not-has_row : goal.returns-then-not-has_row
returns-then-not-has_row c =
    let a = c.args in
    let p = a.target.now.picture in
    let screen = screen_with p.width p.height in
    let ws = a.stack.now in
    let w = window_at ws a.layer.now in
    layer-off_row p (looks_of a.assets.now screen ws) w a.spans.now a.y c.requires.shape
    (off a.layer.now.clip (clip_in screen ws w) a.y c.has_row.result c.requires.layer.clip c.has_row.ensures c.if-not-has_row.true)

pub loop-span-init : goal.loop-span-init
loop-span-init c =
    let a = c.args in
    let p = a.target.now.picture in
    layer-start p (looks_of a.assets.now (screen_with p.width p.height) a.stack.now) (window_at a.stack.now a.layer.now) a.spans.now a.y c.requires.shape

pub returns : goal.returns
returns c =
    let a = c.args in
    let p = a.target.now.picture in
    layer-end p c.loop-span.target.picture (looks_of a.assets.now (screen_with p.width p.height) a.stack.now) (window_at a.stack.now a.layer.now) a.y c.loop-span.span-index a.spans.now c.loop-span-test.false c.loop-span.invariant

pub paint_run-requires-clause-shape : goal.paint_run-requires-clause-shape
paint_run-requires-clause-shape c =
    let a = c.args in
    let p = a.target.now.picture in
    subst HasShape (sym c.loop-span.invariant) (has_shape-row_mapped p a.y (in_first a.spans.now c.loop-span.span-index) (λ u old. over_window (looks_of a.assets.now (screen_with p.width p.height) a.stack.now) (window_at a.stack.now a.layer.now) (point_at (pos u) (pos a.y)) old) c.requires.shape)

-- the columns of a span in the clip that is kept are those in the window's clip
clipped : (width y : ℕ) (kept clip : Rect) (span : Span) (t : Bool) (o : Option Run) → kept ≡ clip → t ≡ is_within kept.y0 kept.y1 (pos y) → t ≡ true
    → ((u : ℕ) → u < width → in_some_run o u ≡ (in_span span (pos u) && is_within kept.x0 kept.x1 (pos u))) → (u : ℕ) → u < width → in_some_run o u ≡ (in_span span (pos u) && has clip (point_at (pos u) (pos y)))
clipped width y kept clip span t o same is e columns u u_in =
    columns u u_in ∙ in-clip kept span (pos u) (pos y) (sym is ∙ e) ∙ ap (λ (r : Rect). in_span span (pos u) && has r (point_at (pos u) (pos y))) same

pub paint_run-requires-clause-corner : goal.paint_run-requires-clause-corner
paint_run-requires-clause-corner c =
    let a = c.args in
    let p = a.target.now.picture in
    let screen = screen_with p.width p.height in
    let ws = a.stack.now in
    let layer = a.layer.now in
    let w = window_at ws layer in
    let run = c.in-Some.run' in
    let span = get_or a.spans.now c.loop-span.span-index no_span in
    let columns = rw (c.width-width.ensures.value, c.in-Some.is) at c.run_in.ensures.columns in
    let paintable = all-at (IsPaintable a.assets.now) ws layer.at no_window c.requires.windows c.requires.layer.at in
    let within : run.right < p.width = omega (arith, c.in-Some.ensures.within, c.width-width.ensures.value) in
    subst (λ (q : Point). IsOrigin q.x × IsOrigin q.y) (sym c.requires.layer.corner)
    (layer-near screen ws w a.y p.width span run paintable.width paintable.height c.requires.shape.most_width (omega (arith, c.requires.row, c.requires.shape.most_height)) c.in-Some.ensures.some within
    (clipped p.width a.y layer.clip (clip_in screen ws w) span c.has_row.result (Some run) c.requires.layer.clip c.has_row.ensures c.if-not-has_row.false columns))

pub loop-span-preserved : goal.loop-span-preserved
loop-span-preserved c =
    let a = c.args in
    let p = a.target.now.picture in
    let screen = screen_with p.width p.height in
    let ws = a.stack.now in
    let layer = a.layer.now in
    let win = window_at ws layer in
    let k = c.loop-span.span-index in
    let span = get_or a.spans.now k no_span in
    let before = c.loop-span.target.picture in
    let columns = rw c.width-width.ensures.value at c.run_in.ensures.columns in
    elim c.match-run_in.branch [
      | in-Some w ↦
          ap (λ (f : Canvas). f.picture) w.target-is
          ∙ layer-some p before w.paint_run.new.target.picture a.assets.now screen ws win layer.corner a.y k a.spans.now span no_span w.in-Some.run' c.requires.shape c.loop-span-test.true refl
          c.requires.layer.corner w.in-Some.ensures.row
          (clipped p.width a.y layer.clip (clip_in screen ws win) span c.has_row.result (Some w.in-Some.run') c.requires.layer.clip c.has_row.ensures c.if-not-has_row.false (rw w.in-Some.is at columns))
          c.loop-span.invariant
          (w.paint_run.ensures ∙ ap (λ (v : Win). row_mapped before w.in-Some.run'.y (in_run w.in-Some.run') (λ u old. unwrap_or (colour_in_window a.assets.now v (seen_from layer.corner (point_at (pos u) (pos w.in-Some.run'.y)))) old)) c.window_of-window.ensures)
      | in_default w ↦
          ap (λ (f : Canvas). f.picture) w.target-is
          ∙ layer-none p before (looks_of a.assets.now screen ws) win a.y k a.spans.now span no_span c.requires.shape c.loop-span-test.true refl
          (clipped p.width a.y layer.clip (clip_in screen ws win) span c.has_row.result None c.requires.layer.clip c.has_row.ensures c.if-not-has_row.false (rw w.in_default.is at columns))
          c.loop-span.invariant
    ]
