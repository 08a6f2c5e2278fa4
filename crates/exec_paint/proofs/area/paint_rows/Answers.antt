use Rattle.std.proofs.Common.{le_refl, ◌≡◌, true, false, Bool, cond, ◌+◌, ◌<◌, ◌≤◌, ℕ, pos, List, drop, refl, sym, ap, subst, ◌∙◌, w32, SFits, rules, arith}
use Rattle.std.specs.List.{AllByRecursion}
use Rattle.std.proofs.lemmas.Bool.{false≢true}
use Rattle.std.proofs.lemmas.Int.{ints, to_z-of_z}
use Rattle.gfx_base.specs.declared.point.Point.{Point}
use Rattle.gfx_base.specs.declared.rect.Rect.{Rect}
use Rattle.gfx_base.specs.Rects.{has, point_at}
use Rattle.frame.specs.Canvases.{Canvas}
use Rattle.frame.specs.Pictures.{Picture, HasShape, changed}
use Rattle.frame.proofs.CallerLemmas.{has_shape-changed}
use Rattle.region.specs.declared.span.Span.{Span}
use Rattle.region.specs.Spans.{in_spans}
use Rattle.paint_ops.specs.Kinds.{Assets}
use Rattle.scene.specs.declared.win.Win.{Win}
use Rattle.scene.specs.Looks.{looks_of, screen_with}
use Rattle.scene.specs.Painting.{painted, painted_over, windows_at, hides_behind}
use Rattle.exec_paint.specs.Areas.{is_open}
use Rattle.exec_paint.specs.Layers.{IsLayer, windows_in}
use Rattle.exec_paint.specs.Rows.{row_mapped}
use Rattle.exec_paint.specs.Writes.{HaveSameSides, written_once}
use Rattle.exec_paint.proofs.RowLemmas.{has_shape-row_mapped}
use Rattle.exec_paint.proofs.AreaLemmas.{to_row, looks_on, screen_is, rows-start, rows-end, tiles-none_yet, tiles-row, tiles-all_rows, open-columns, open-colours, open-low, open-high, row_within, row-painted}
use Rattle.exec_paint.proofs.CopyLemmas.{copy-start, copy-end, composed-row}
use Rattle.exec_paint.specs.Plans.{is_hidden, IsPlanFrom}
use Rattle.exec_paint.proofs.PlanLemmas.{or_false}
use Rattle.exec_paint.proofs.area.paint_rows.Goals as goal
use Rattle.exec_paint.proofs.area.paint_rows.Goals.{then-plan-y, else-plan-y, then-composed, else-composed}

-- the points of the area that are painted, and their colours
abbrev open_at : Assets → List Win → ℕ → Rect → Picture → ℕ → ℕ → Bool
open_at assets ws which area p u v = is_open (looks_on assets ws p) (drop (which + 1) ws) area (point_at (pos u) (pos v))

abbrev painted_at : Assets → List Win → Picture → ℕ → ℕ → ℕ
painted_at assets ws p u v = painted (looks_on assets ws p) ws (point_at (pos u) (pos v))

pub loop-y-init : goal.loop-y-init
loop-y-init c =
    let a = c.args in
    let p = a.target.now.picture in
    let here = open_at a.assets.now a.stack.now a.which a.area.now p in
    let colours = painted_at a.assets.now a.stack.now p in
    let f : SFits w32 a.area.now.y0 = search rules in
    let top : pos c.unsigned-top.result ≡ a.area.now.y0 = simp to_z-of_z at c.unsigned-top.ensures.value in
    let low = open-low (looks_on a.assets.now a.stack.now p) (drop (a.which + 1) a.stack.now) a.area.now c.unsigned-top.result top in
    record {
      picture = rows-start p here colours c.unsigned-top.result c.frame_is_sound-2.ensures.shape low;
      once = λ composed. copy-start a.target.now here colours c.unsigned-top.result c.frame_is_sound-2.ensures.shape c.frame_is_sound-2.ensures.count low;
      sides = (refl, refl);
      shape = c.frame_is_sound.ensures.shape;
      unused = λ straight. refl;
      tiles = tiles-none_yet p.width p.height c.unsigned-top.result here c.empty-tiles.result low c.empty-tiles.ensures;
      plan = c.plan_row-plan.ensures.columns;
    }

-- the device's screen is the target's
same_screen : (dev old p : Picture) → HaveSameSides dev old → HaveSameSides old p → screen_with dev.width dev.height ≡ screen_with p.width p.height
same_screen dev old p now before = screen_is (screen_with dev.width dev.height) p dev.width dev.height refl (now.0 ∙ before.0) (now.1 ∙ before.1)

pub paint_row-requires-clause-layers : goal.paint_row-requires-clause-layers
paint_row-requires-clause-layers c =
    let a = c.args in
    subst (λ (s : Rect). AllByRecursion (IsLayer s a.stack.now) a.layers.now) (sym (same_screen c.loop-y.device.picture a.device.now.picture a.target.now.picture c.loop-y.invariant.sides c.requires.sides)) c.requires.layers

pub paint_row-requires-clause-row : goal.paint_row-requires-clause-row
paint_row-requires-clause-row c =
    let f1 : SFits w32 c.args.area.now.y1 = search rules in
    let last : pos c.unsigned-y-end.result ≡ c.args.area.now.y1 = simp to_z-of_z at c.unsigned-y-end.ensures.value in
    let within : c.loop-y.y < c.args.target.now.picture.height = omega (arith, ints, c.requires.area.bottom, last, c.loop-y-test.true) in
    omega (arith, within, c.loop-y.invariant.sides.1, c.requires.sides.1)

pub copy_spans-requires-clause-sides : goal.copy_spans-requires-clause-sides
copy_spans-requires-clause-sides c =
    let before = c.loop-y.invariant in (
      ap (λ (q : Picture). q.width) c.paint_row.ensures ∙ before.sides.0 ∙ c.requires.sides.0 ∙ sym (ap (λ (q : Picture). q.width) before.picture),
      ap (λ (q : Picture). q.height) c.paint_row.ensures ∙ before.sides.1 ∙ c.requires.sides.1 ∙ sym (ap (λ (q : Picture). q.height) before.picture),
    )

pub paint_row-requires-else-composed-clause-shape : goal.paint_row-requires-else-composed-clause-shape
paint_row-requires-else-composed-clause-shape c =
    let a = c.args in
    let p = a.target.now.picture in
    subst HasShape (sym c.loop-y.invariant.picture) (has_shape-changed p (to_row (open_at a.assets.now a.stack.now a.which a.area.now p) c.loop-y.y) (painted_at a.assets.now a.stack.now p) c.frame_is_sound-2.ensures.shape)

pub loop-y-preserved : goal.loop-y-preserved
loop-y-preserved c =
    let a = c.args in
    let f = a.target.now in
    let p = f.picture in
    let ws = a.stack.now in
    let area = a.area.now in
    let above = drop (a.which + 1) ws in
    let looks = looks_on a.assets.now ws p in
    let here = open_at a.assets.now ws a.which area p in
    let colours = painted_at a.assets.now ws p in
    let y = c.loop-y.y in
    let holes = a.holes.now in
    let shape = c.frame_is_sound-2.ensures.shape in
    let before = c.loop-y.invariant in
    let f0 : SFits w32 area.y0 = search rules in
    let f1 : SFits w32 area.y1 = search rules in
    let top : pos c.unsigned-top.result ≡ area.y0 = simp to_z-of_z at c.unsigned-top.ensures.value in
    let last : pos c.unsigned-y-end.result ≡ area.y1 = simp to_z-of_z at c.unsigned-y-end.ensures.value in
    let row = row_within area.y0 area.y1 c.unsigned-top.result c.unsigned-y-end.result y top last c.loop-y.auto.y c.loop-y-test.true in
    let hidden : (r : Point) → has area r ≡ true → is_hidden holes r ≡ hides_behind looks (windows_at looks above r) = λ r at. sym (or_false (is_hidden holes r)) ∙ c.requires.holes r at in
    let plan = c.if-plan-y.plan in
    let planned : (y ≤ plan.last) × IsPlanFrom y area holes plan =
    elim c.if-plan-y.branch [
      | then-plan-y w ↦ rw w.plan-is (w.plan_row-plan-then-plan-y.ensures.from, w.plan_row-plan-then-plan-y.ensures.columns)
      | else-plan-y w ↦ rw w.plan-is (omega (arith, w.if-plan-y.false), before.plan)
    ] in
    let columns : (u : ℕ) → in_spans plan.spans (pos u) ≡ here u y = λ u. open-columns looks above area holes plan.spans y u row (planned.1 y (le_refl y) planned.0) hidden in
    let over : Rect → ℕ → ℕ → ℕ = λ s u old. painted_over (looks_of a.assets.now s ws) (point_at (pos u) (pos y)) (cond a.bare 0 old) (windows_at (looks_of a.assets.now s ws) (windows_in ws a.layers.now) (point_at (pos u) (pos y))) in
    let settled : (r : Point) (old : ℕ) → is_open looks above area r ≡ true → painted_over looks r (cond a.bare 0 old) (windows_at looks (windows_in ws a.layers.now) r) ≡ painted looks ws r =
    λ r old h. open-colours looks ws above area holes a.bare (windows_in ws a.layers.now) r old hidden c.requires.colours h in
    let shown = c.spans-spans.result.now in
    let dev = c.loop-y.device.picture in
    let screen = same_screen dev a.device.now.picture p before.sides c.requires.sides in
    let device = c.if-composed.device in
    let target = c.if-composed.target in
    let done : (target.picture ≡ changed p (to_row here (y + 1)) colours)
    × (c.window_of.result.now.memdev ≡ true → target ≡ written_once f (to_row here (y + 1)) colours)
    × HaveSameSides device.picture a.device.now.picture
    × HasShape device.picture
    × (c.window_of.result.now.memdev ≡ false → device ≡ a.device.now) =
    elim c.if-composed.branch [
      | then-composed w ↦
          let made : device.picture ≡ row_mapped dev y (λ u. in_spans shown (pos u)) (over (screen_with dev.width dev.height)) = ap (λ (g : Canvas). g.picture) w.device-is ∙ w.paint_row.ensures in
          let copied : target ≡ written_once f (to_row here (y + 1)) colours = w.target-is
          ∙ composed-row f c.loop-y.target w.copy_spans.new.target dev w.paint_row.new.target.picture here (λ u. in_spans shown (pos u)) colours (over (screen_with p.width p.height)) y shape
          (before.sides.0 ∙ c.requires.sides.0) (before.sides.1 ∙ c.requires.sides.1) (λ u. ap (λ (ss : List Span). in_spans ss (pos u)) c.spans-spans.ensures.value ∙ columns u) (λ u old h. settled (point_at (pos u) (pos y)) old h)
          (before.once w.if-composed.true) (w.paint_row.ensures ∙ ap (λ (s : Rect). row_mapped dev y (λ u. in_spans shown (pos u)) (over s)) screen) w.copy_spans.ensures in (
            ap (λ (g : Canvas). g.picture) copied,
            λ yes. copied,
            (ap (λ (q : Picture). q.width) made ∙ before.sides.0, ap (λ (q : Picture). q.height) made ∙ before.sides.1),
            subst HasShape (sym made) (has_shape-row_mapped dev y (λ u. in_spans shown (pos u)) (over (screen_with dev.width dev.height)) before.shape),
            λ no. absurd (false≢true (sym no ∙ w.if-composed.true)),
          )
      | else-composed w ↦ (
        ap (λ (g : Canvas). g.picture) w.target-is
            ∙ row-painted p c.loop-y.target.picture w.paint_row-else-composed.new.target.picture a.assets.now ws above area y shown plan.spans a.layers.now a.layers.now a.bare shape columns settled c.spans-spans.ensures.value refl before.picture w.paint_row-else-composed.ensures,
        λ yes. absurd (false≢true (sym w.if-composed.false ∙ yes)),
        (ap (λ (g : Canvas). g.picture.width) w.device-is ∙ before.sides.0, ap (λ (g : Canvas). g.picture.height) w.device-is ∙ before.sides.1),
        subst (λ (g : Canvas). HasShape g.picture) (sym w.device-is) before.shape,
        λ no. w.device-is ∙ before.unused no,
      )
    ] in
    let width : c.width-width.result ≡ p.width = c.width-width.ensures.value in
    record {
      picture = done.0;
      once = done.1;
      sides = done.2;
      shape = done.3;
      unused = done.4;
      tiles = tiles-row p.width p.height y here (λ u. in_spans plan.spans (pos u)) c.loop-y.tiles c.add_tiles.new.tiles (omega (arith, ints, c.requires.area.bottom, last, c.loop-y-test.true)) (λ u u_in. columns u) before.tiles
          (rw (width, c.spans-spans.ensures.value) at c.add_tiles.ensures);
      plan = λ v from last. planned.1 v (omega (arith, from)) last;
    }

pub returns-clause-painted : goal.returns-clause-painted
returns-clause-painted c =
    let a = c.args in
    let f = a.target.now in
    let p = f.picture in
    let here = open_at a.assets.now a.stack.now a.which a.area.now p in
    let colours = painted_at a.assets.now a.stack.now p in
    let shape = c.frame_is_sound-2.ensures.shape in
    let f1 : SFits w32 a.area.now.y1 = search rules in
    let f0 : SFits w32 a.area.now.y0 = search rules in
    let top : pos c.unsigned-top.result ≡ a.area.now.y0 = simp to_z-of_z at c.unsigned-top.ensures.value in
    let last : pos c.unsigned-y-end.result ≡ a.area.now.y1 = simp to_z-of_z at c.unsigned-y-end.ensures.value in
    let order : c.unsigned-top.result ≤ c.unsigned-y-end.result + 1 = omega (arith, ints, top, last, c.requires.area.rows) in
    let at_end : c.loop-y.y ≡ c.unsigned-y-end.result + 1 = omega (arith, c.loop-y.auto.y-end order, c.loop-y-test.false) in
    let high = open-high (looks_on a.assets.now a.stack.now p) (drop (a.which + 1) a.stack.now) a.area.now c.unsigned-y-end.result last in
    let same = ap (λ (w : Win). w.memdev) c.window_of.ensures in
    record {
      picture = c.loop-y.invariant.picture ∙ ap (λ (y : ℕ). changed p (to_row here y) colours) at_end ∙ rows-end p here colours (c.unsigned-y-end.result + 1) shape high;
      once = λ composed. copy-end f c.loop-y.target here colours (c.unsigned-y-end.result + 1) shape high (c.loop-y.invariant.once (same ∙ composed) ∙ ap (λ (y : ℕ). written_once f (to_row here y) colours) at_end);
      sides = c.loop-y.invariant.sides;
      unused = λ straight. c.loop-y.invariant.unused (same ∙ straight);
    }

pub returns-clause-tiles : goal.returns-clause-tiles
returns-clause-tiles c =
    let a = c.args in
    let p = a.target.now.picture in
    let f1 : SFits w32 a.area.now.y1 = search rules in
    let last : pos c.unsigned-y-end.result ≡ a.area.now.y1 = simp to_z-of_z at c.unsigned-y-end.ensures.value in
    let past : c.unsigned-y-end.result + 1 ≤ c.loop-y.y = c.loop-y-test.false in
    tiles-all_rows p.width p.height c.loop-y.y (open_at a.assets.now a.stack.now a.which a.area.now p) c.loop-y.tiles
    (λ u v h. let high = open-high (looks_on a.assets.now a.stack.now p) (drop (a.which + 1) a.stack.now) a.area.now c.unsigned-y-end.result last u v h in omega arith) c.loop-y.invariant.tiles
