-- The rows of a job, one after the other.
use Rattle.std.proofs.Common.{◌≡◌, ℕ, ◌+◌, ◌/◌, ◌<◌, ◌≤◌, Bool, true, false, cond, ◌&&◌, eqb, ltb, ℤ, pos, ◌≤ℤ◌, ◌<ℤ◌, ◌-ℤ◌, int_lt, Option, Some, None, List, refl, sym, ap, ◌∙◌, inl, inr, arith}
use Rattle.std.specs.Prelude.{not}
use Rattle.std.proofs.lemmas.Int.{ints}
use Rattle.gfx_base.specs.declared.point.Point.{Point}
use Rattle.gfx_base.specs.declared.rect.Rect.{Rect}
use Rattle.gfx_base.specs.Range.{is_within}
use Rattle.gfx_base.specs.Rects.{has, is_empty, point_at}
use Rattle.gfx_base.proofs.CallerLemmas.{has-corner, has-far_corner}
use Rattle.region.specs.declared.span.Span.{Span}
use Rattle.region.specs.Spans.{in_spans}
use Rattle.paint_ops.specs.Kinds.{Assets}
use Rattle.scene.specs.declared.win.Win.{Win}
use Rattle.scene.specs.Painting.{Looks, windows_at, hides_behind, painted_over, painted}
use Rattle.scene.specs.Looks.{looks_of, screen_with}
use Rattle.scene.specs.Damage.{some_has, in_patch, in_patch_at, repainted}
use Rattle.exec_paint.specs.declared.layer.Layer.{Layer}
use Rattle.exec_paint.specs.declared.plan.Hole.{Hole}
use Rattle.exec_paint.specs.Layers.{windows_in}
use Rattle.exec_paint.specs.Plans.{is_hidden}
use Rattle.exec_paint.specs.Areas.{IsOn, is_open, painted_in}
use Rattle.exec_paint.proofs.LayerLemmas.{has-columns}
use Rattle.std.proofs.lemmas.Bool.{cases_Bool, and_parts, and_from, or_parts}
use Rattle.std.proofs.lemmas.Bool.Decides.{nat_tests}
use Rattle.gfx_base.specs.TileSets.{has_tile}
use Rattle.frame.specs.Pictures.{Picture, HasShape, colour_at, changed}
use Rattle.frame.proofs.CallerLemmas.{changed-from_points, changed-same, changed-none, colour_at-changed, has_shape-changed}
use Rattle.exec_paint.specs.Rows.{row_mapped}
use Rattle.gfx_base.specs.TileSets.{AreTilesOf}
use Rattle.exec_paint.specs.Marks.{AddsTiles}
use Rattle.exec_paint.proofs.RowLemmas.{colour_at-row_mapped, has_shape-row_mapped}

-- the points of a test in the rows above y
abbrev pub to_row : (ℕ → ℕ → Bool) → ℕ → ℕ → ℕ → Bool
to_row here y u v = here u v && ltb v y

pub off : (here test : Bool) → (here ≡ true → test ≡ false) → (here && test) ≡ false
off true test h = h refl
off false test h = refl

pub on : (here test : Bool) → (here ≡ true → test ≡ true) → (here && test) ≡ here
on true test h = h refl
on false test h = refl

none_left : (test : Bool) (a old : ℕ) → test ≡ false → old ≡ cond test a old
none_left true a old e = absurd cc
none_left false a old e = refl

pub rows-start : (p : Picture) (here : ℕ → ℕ → Bool) (colours : ℕ → ℕ → ℕ) (top : ℕ) → HasShape p → ((u v : ℕ) → here u v ≡ true → top ≤ v) → p ≡ changed p (to_row here top) colours
rows-start p here colours top shape below =
    changed-from_points p p (to_row here top) colours shape shape refl refl (λ u v u_in v_in.
    none_left (to_row here top u v) (colours u v) (colour_at p u v) (off (here u v) (ltb v top) (λ h. let low = below u v h in grind (arith, nat_tests))))

pub rows-end : (p : Picture) (here : ℕ → ℕ → Bool) (colours : ℕ → ℕ → ℕ) (bottom : ℕ) → HasShape p → ((u v : ℕ) → here u v ≡ true → v < bottom) → changed p (to_row here bottom) colours ≡ changed p here colours
rows-end p here colours bottom shape above =
    changed-same p (to_row here bottom) here colours colours shape (λ u v u_in v_in. on (here u v) (ltb v bottom) (λ h. let low = above u v h in grind (arith, nat_tests))) (λ u v u_in v_in h. refl)

this_row : (here below next : Bool) (now mapped colour old : ℕ) → below ≡ false → next ≡ true → (here ≡ true → mapped ≡ colour) → cond here mapped (cond (here && below) colour old) ≡ cond (here && next) colour old
this_row true below next now mapped colour old b n e = rw (n, e refl) refl
this_row false below next now mapped colour old b n e = refl

other_row : (here below next : Bool) (colour old : ℕ) → below ≡ next → cond (here && below) colour old ≡ cond (here && next) colour old
other_row here below next colour old e = rw e refl

pub rows-more : (p q now : Picture) (here : ℕ → ℕ → Bool) (colours : ℕ → ℕ → ℕ) (y : ℕ) (columns : ℕ → Bool) (f : ℕ → ℕ → ℕ) → HasShape p → ((u : ℕ) → u < p.width → columns u ≡ here u y)
    → ((u old : ℕ) → here u y ≡ true → f u old ≡ colours u y) → q ≡ changed p (to_row here y) colours → now ≡ row_mapped q y columns f → now ≡ changed p (to_row here (y + 1)) colours
rows-more p q now here colours y columns f shape same painted so_far step =
    let before : Picture = changed p (to_row here y) colours in
    let before_shape : HasShape before = has_shape-changed p (to_row here y) colours shape in
    step ∙ ap (λ (r : Picture). row_mapped r y columns f) so_far
    ∙ changed-from_points p (row_mapped before y columns f) (to_row here (y + 1)) colours shape (has_shape-row_mapped before y columns f before_shape) refl refl (λ u v u_in v_in.
    let old = colour_at p u v in
    let was : colour_at before u v ≡ cond (to_row here y u v) (colours u v) old = colour_at-changed p (to_row here y) colours u v u_in v_in in
    colour_at-row_mapped before y columns f u v u_in v_in
    ∙ elim (cases_Bool (eqb v y)) [
      | inl e ↦
          let is : v ≡ y = grind (arith, nat_tests) in
          let below : ltb v y ≡ false = grind (arith, nat_tests) in
          let next : ltb v (y + 1) ≡ true = grind (arith, nat_tests) in
          ap (λ (b : Bool). cond b (cond (columns u) (f u (colour_at before u v)) (colour_at before u v)) (colour_at before u v)) e
          ∙ ap (λ (b : Bool). cond b (f u (colour_at before u v)) (colour_at before u v)) (same u u_in ∙ ap (here u) (sym is))
          ∙ ap (λ (c : ℕ). cond (here u v) (f u (colour_at before u v)) c) was
          ∙ this_row (here u v) (ltb v y) (ltb v (y + 1)) 0 (f u (colour_at before u v)) (colours u v) old below next (λ h. painted u (colour_at before u v) (ap (here u) (sym is) ∙ h) ∙ ap (colours u) (sym is))
      | inr e ↦
          let before_next : ltb v y ≡ ltb v (y + 1) = grind (arith, nat_tests) in
          ap (λ (b : Bool). cond b (cond (columns u) (f u (colour_at before u v)) (colour_at before u v)) (colour_at before u v)) e ∙ was
          ∙ other_row (here u v) (ltb v y) (ltb v (y + 1)) (colours u v) old before_next
    ])

-- ---- tiles

ltb_is : (a b : ℕ) → ltb a b ≡ true → a < b
ltb_is a b e = grind (arith, nat_tests)

pub tiles-none_yet : (width height top : ℕ) (here : ℕ → ℕ → Bool) (tiles : List ℕ) → ((u v : ℕ) → here u v ≡ true → top ≤ v) → ((c r : ℕ) → has_tile tiles c r ≡ false) → AreTilesOf width height (to_row here top) tiles
tiles-none_yet width height top here tiles below none = record {
  all = λ x y x_in y_in e. let both = and_parts (here x y) (ltb y top) e in let low = below x y both.0 in absurd (omega (arith, ltb_is y top both.1));
  only = λ c r e. absurd (cc (none c r));
}

wider : (here below next : Bool) → (below ≡ true → next ≡ true) → (here && below) ≡ true → (here && next) ≡ true
wider true below next f e = f e
wider false below next f e = absurd cc

pub tiles-row : (width height y : ℕ) (here : ℕ → ℕ → Bool) (columns : ℕ → Bool) (old new : List ℕ) → y < height → ((u : ℕ) → u < width → columns u ≡ here u y) → AreTilesOf width height (to_row here y) old → AddsTiles width y columns old new
    → AreTilesOf width height (to_row here (y + 1)) new
tiles-row width height y here columns old new row same so_far adds = record {
  all = λ u v u_in v_in e.
      let both = and_parts (here u v) (ltb v (y + 1)) e in
      elim (cases_Bool (eqb v y)) [
        | inl now ↦
            let is : v ≡ y = grind (arith, nat_tests) in
            ap (λ (k : ℕ). has_tile new (u / 16) (k / 16)) is ∙ adds.all u u_in (same u u_in ∙ ap (here u) (sym is) ∙ both.0)
        | inr other ↦ adds.kept (u / 16) (v / 16) (so_far.all u v u_in v_in (and_from (here u v) (ltb v y) both.0 (grind (arith, nat_tests))))
      ];
  only = λ c r e.
      elim (adds.only c r e) [
        | inl was ↦
            let h = so_far.only c r was in
            record { x = h.x; y = h.y; inside = h.inside; col_is = h.col_is; row_is = h.row_is; is_here = wider (here h.x h.y) (ltb h.y y) (ltb h.y (y + 1)) (λ t. grind (arith, nat_tests)) h.is_here }
        | inr now ↦
            let h = now.1 in
            record { x = h.x; y = y; inside = (h.inside, row); col_is = h.col_is; row_is = sym now.0; is_here = and_from (here h.x y) (ltb y (y + 1)) (sym (same h.x h.inside) ∙ h.is_here) (grind (arith, nat_tests)) }
      ];
}

pub tiles-all_rows : (width height bottom : ℕ) (here : ℕ → ℕ → Bool) (tiles : List ℕ) → ((u v : ℕ) → here u v ≡ true → v < bottom) → AreTilesOf width height (to_row here bottom) tiles → AreTilesOf width height here tiles
tiles-all_rows width height bottom here tiles above so_far = record {
  all = λ u v u_in v_in e. let high = above u v e in so_far.all u v u_in v_in (and_from (here u v) (ltb v bottom) e (grind (arith, nat_tests)));
  only = λ c r e. let h = so_far.only c r e in record { x = h.x; y = h.y; inside = h.inside; col_is = h.col_is; row_is = h.row_is; is_here = (and_parts (here h.x h.y) (ltb h.y bottom) h.is_here).0 };
}

-- ---- the plan of a job

-- a screen of a picture's sides
pub screen_is : (screen : Rect) (p : Picture) (width height : ℕ) → screen ≡ screen_with width height → width ≡ p.width → height ≡ p.height → screen ≡ screen_with p.width p.height
screen_is screen p width height e w h = e ∙ rw (w, h) refl

same_not : (a b c : Bool) → (a ≡ true → b ≡ c) → (a && not b) ≡ (a && not c)
same_not true b c e = ap not (e refl)
same_not false b c e = refl

not_false : (b : Bool) → not b ≡ true → b ≡ false
not_false true e = absurd cc
not_false false e = refl

-- the columns that are painted on a row of the area are the open ones
pub open-columns : (looks : Looks) (above : List Win) (area : Rect) (holes : List Hole) (spans : List Span) (y u : ℕ) → is_within area.y0 area.y1 (pos y) ≡ true
    → ((x : ℤ) → in_spans spans x ≡ (is_within area.x0 area.x1 x && not (is_hidden holes (point_at x (pos y)))))
    → ((p : Point) → has area p ≡ true → is_hidden holes p ≡ hides_behind looks (windows_at looks above p)) → in_spans spans (pos u) ≡ is_open looks above area (point_at (pos u) (pos y))
open-columns looks above area holes spans y u row columns hidden =
    let p = point_at (pos u) (pos y) in
    columns (pos u) ∙ ap (λ (b : Bool). b && not (is_hidden holes p)) (sym (has-columns area (pos u) (pos y) row))
    ∙ same_not (has area p) (is_hidden holes p) (hides_behind looks (windows_at looks above p)) (hidden p)

pub open-colours : (looks : Looks) (ws above : List Win) (area : Rect) (holes : List Hole) (bare : Bool) (all : List Win) (p : Point) (old : ℕ)
    → ((p : Point) → has area p ≡ true → is_hidden holes p ≡ hides_behind looks (windows_at looks above p))
    → ((p : Point) (old : ℕ) → has area p ≡ true → is_hidden holes p ≡ false → painted_over looks p (cond bare 0 old) (windows_at looks all p) ≡ painted looks ws p)
    → is_open looks above area p ≡ true → painted_over looks p (cond bare 0 old) (windows_at looks all p) ≡ painted looks ws p
open-colours looks ws above area holes bare all p old hidden colours e =
    let both = and_parts (has area p) (not (hides_behind looks (windows_at looks above p))) e in
    colours p old both.0 (hidden p both.0 ∙ not_false (hides_behind looks (windows_at looks above p)) both.1)

rows_of : (r : Rect) (x y : ℤ) → has r (point_at x y) ≡ true → is_within r.y0 r.y1 y ≡ true
unfolding has
rows_of r x y h = (and_parts (is_within r.x0 r.x1 x) (is_within r.y0 r.y1 y) h).1

low_row : (a b : ℤ) (top v : ℕ) → pos top ≡ a → is_within a b (pos v) ≡ true → top ≤ v
unfolding is_within
low_row a b top v e h = grind (arith, ints)

high_row : (a b : ℤ) (last v : ℕ) → pos last ≡ b → is_within a b (pos v) ≡ true → v < last + 1
unfolding is_within
high_row a b last v e h = grind (arith, ints)

pub row_within : (a b : ℤ) (top last v : ℕ) → pos top ≡ a → pos last ≡ b → top ≤ v → v < last + 1 → is_within a b (pos v) ≡ true
unfolding is_within
row_within a b top last v e f low high = grind (arith, ints)

pub open-low : (looks : Looks) (above : List Win) (area : Rect) (top : ℕ) → pos top ≡ area.y0 → (u v : ℕ) → is_open looks above area (point_at (pos u) (pos v)) ≡ true → top ≤ v
open-low looks above area top e u v h = low_row area.y0 area.y1 top v e (rows_of area (pos u) (pos v) (and_parts _ _ h).0)

pub open-high : (looks : Looks) (above : List Win) (area : Rect) (last : ℕ) → pos last ≡ area.y1 → (u v : ℕ) → is_open looks above area (point_at (pos u) (pos v)) ≡ true → v < last + 1
open-high looks above area last e u v h = high_row area.y0 area.y1 last v e (rows_of area (pos u) (pos v) (and_parts _ _ h).0)

-- how the windows look on a screen of a picture's sides
abbrev pub looks_on : Assets → List Win → Picture → Looks
looks_on assets ws p = looks_of assets (screen_with p.width p.height) ws

pub row-painted : (p q now : Picture) (assets : Assets) (ws above : List Win) (area : Rect) (y : ℕ) (given spans : List Span) (shown layers : List Layer) (bare : Bool) → HasShape p
    → ((u : ℕ) → in_spans spans (pos u) ≡ is_open (looks_on assets ws p) above area (point_at (pos u) (pos y)))
    → ((r : Point) (old : ℕ) → is_open (looks_on assets ws p) above area r ≡ true → painted_over (looks_on assets ws p) r (cond bare 0 old) (windows_at (looks_on assets ws p) (windows_in ws layers) r) ≡ painted (looks_on assets ws p) ws r)
    → given ≡ spans → shown ≡ layers
    → q ≡ changed p (to_row (λ u v. is_open (looks_on assets ws p) above area (point_at (pos u) (pos v))) y) (λ u v. painted (looks_on assets ws p) ws (point_at (pos u) (pos v)))
    → now ≡ row_mapped q y (λ u. in_spans given (pos u)) (λ u old. painted_over (looks_on assets ws q) (point_at (pos u) (pos y)) (cond bare 0 old) (windows_at (looks_on assets ws q) (windows_in ws shown) (point_at (pos u) (pos y))))
    → now ≡ changed p (to_row (λ u v. is_open (looks_on assets ws p) above area (point_at (pos u) (pos v))) (y + 1)) (λ u v. painted (looks_on assets ws p) ws (point_at (pos u) (pos v)))
row-painted p q now assets ws above area y given spans shown layers bare shape columns colours is_given is_shown so_far step =
    let f : Picture → List Layer → ℕ → ℕ → ℕ = λ r ls u old. painted_over (looks_on assets ws r) (point_at (pos u) (pos y)) (cond bare 0 old) (windows_at (looks_on assets ws r) (windows_in ws ls) (point_at (pos u) (pos y))) in
    rows-more p q now (λ u v. is_open (looks_on assets ws p) above area (point_at (pos u) (pos v))) (λ u v. painted (looks_on assets ws p) ws (point_at (pos u) (pos v))) y (λ u. in_spans spans (pos u)) (f p layers) shape
    (λ u u_in. columns u) (λ u old h. colours (point_at (pos u) (pos y)) old h) so_far
    (step ∙ ap (λ (ss : List Span). row_mapped q y (λ u. in_spans ss (pos u)) (f q shown)) is_given
    ∙ ap (λ (ls : List Layer). row_mapped q y (λ u. in_spans spans (pos u)) (f q ls)) is_shown
    ∙ ap (λ (r : Picture). row_mapped q y (λ u. in_spans spans (pos u)) (f r layers)) so_far)

-- ---- the job

ordered : (a b : ℤ) → int_lt b a ≡ false → a ≤ℤ b
ordered a b h = grind (arith, ints)

screen_bounds : (last : ℕ) (z : ℤ) → is_within (pos 0) (pos last -ℤ pos 1) z ≡ true → (pos 0 ≤ℤ z) × (z <ℤ pos last)
unfolding is_within
screen_bounds last z h = (grind (arith, ints), grind (arith, ints))

on_screen : (width height : ℕ) (p : Point) → has (screen_with width height) p ≡ true → ((pos 0 ≤ℤ p.x) × (p.x <ℤ pos width)) × ((pos 0 ≤ℤ p.y) × (p.y <ℤ pos height))
unfolding has
on_screen width height p h = let both = and_parts _ _ h in (screen_bounds width p.x both.0, screen_bounds height p.y both.1)

corners : (area : Rect) → is_empty area ≡ false → (int_lt area.x1 area.x0 ≡ false) × (int_lt area.y1 area.y0 ≡ false)
unfolding is_empty
corners area e = or_parts (int_lt area.x1 area.x0) (int_lt area.y1 area.y0) e

pub on-screen : (width height : ℕ) (area : Rect) → ((p : Point) → has area p ≡ true → has (screen_with width height) p ≡ true) → is_empty area ≡ false → IsOn width height area
on-screen width height area inside some =
    let near = on_screen width height (point_at area.x0 area.y0) (inside (point_at area.x0 area.y0) (has-corner area some)) in
    let far = on_screen width height (point_at area.x1 area.y1) (inside (point_at area.x1 area.y1) (has-far_corner area some)) in
    let order = corners area some in
    record { left = near.0.0; right = far.0.1; top = near.1.0; bottom = far.1.1; columns = ordered area.x0 area.x1 order.0; rows = ordered area.y0 area.y1 order.1 }

turned : (a b h : Bool) → ((a && b) && h) ≡ ((a && h) && b)
turned true true true = refl
turned true true false = refl
turned true false true = refl
turned true false false = refl
turned false b h = refl

-- the open points of the invalid rectangle in the window's clip are those of its patch
pub open-patch : (looks : Looks) (w : Win) (above : List Win) (area invalid : Rect) (p : Point) → w.invalid ≡ Some invalid → has area p ≡ (has (looks.clip w) p && has invalid p) → is_open looks above area p ≡ in_patch looks w above p
open-patch looks w above area invalid p is meet =
    let h = not (hides_behind looks (windows_at looks above p)) in
    ap (λ (b : Bool). b && h) meet ∙ turned (has (looks.clip w) p) (has invalid p) h ∙ ap (λ (o : Option Rect). (has (looks.clip w) p && h) && some_has o p) (sym is)

pub patch-painted : (p now : Picture) (looks : Looks) (ws : List Win) (which : ℕ) (above : List Win) (area : Rect) → HasShape p → ((r : Point) → is_open looks above area r ≡ in_patch_at looks ws which r) → now ≡ painted_in looks ws above area p → now ≡ repainted looks ws which p
patch-painted p now looks ws which above area shape same e =
    e ∙ changed-same p (λ x y. is_open looks above area (point_at (pos x) (pos y))) (λ x y. in_patch_at looks ws which (point_at (pos x) (pos y))) (λ x y. painted looks ws (point_at (pos x) (pos y))) (λ x y. painted looks ws (point_at (pos x) (pos y))) shape (λ x y x_in y_in. same (point_at (pos x) (pos y))) (λ x y x_in y_in h. refl)

pub tiles-same : (width height : ℕ) (here there : ℕ → ℕ → Bool) (tiles : List ℕ) → ((x y : ℕ) → here x y ≡ there x y) → AreTilesOf width height here tiles → AreTilesOf width height there tiles
tiles-same width height here there tiles same of = record {
  all = λ x y x_in y_in e. of.all x y x_in y_in (same x y ∙ e);
  only = λ c r e. let h = of.only c r e in record { x = h.x; y = h.y; inside = h.inside; col_is = h.col_is; row_is = h.row_is; is_here = sym (same h.x h.y) ∙ h.is_here };
}

pub patch-empty : (p : Picture) (looks : Looks) (ws : List Win) (which : ℕ) → HasShape p → ((r : Point) → in_patch_at looks ws which r ≡ false) → p ≡ repainted looks ws which p
patch-empty p looks ws which shape none = sym (changed-none p (λ x y. in_patch_at looks ws which (point_at (pos x) (pos y))) (λ x y. painted looks ws (point_at (pos x) (pos y))) shape (λ x y x_in y_in. none (point_at (pos x) (pos y))))

-- where windows above hide the whole area, no point of it is open, and nothing is painted
pub closed : (looks : Looks) (above : List Win) (area : Rect) (p : Point) → (has area p ≡ true → hides_behind looks (windows_at looks above p) ≡ true) → is_open looks above area p ≡ false
closed looks above area p hides = off (has area p) (not (hides_behind looks (windows_at looks above p))) (λ here. ap not (hides here))

pub area-closed : (p : Picture) (looks : Looks) (ws above : List Win) (area : Rect) → HasShape p → ((r : Point) → is_open looks above area r ≡ false) → p ≡ painted_in looks ws above area p
area-closed p looks ws above area shape none = sym (changed-none p (λ x y. is_open looks above area (point_at (pos x) (pos y))) (λ x y. painted looks ws (point_at (pos x) (pos y))) shape (λ x y x_in y_in. none (point_at (pos x) (pos y))))

pub tiles-empty : (width height : ℕ) (here : ℕ → ℕ → Bool) (tiles : List ℕ) → ((x y : ℕ) → here x y ≡ false) → ((c r : ℕ) → has_tile tiles c r ≡ false) → AreTilesOf width height here tiles
tiles-empty width height here tiles none empty = record {
  all = λ x y x_in y_in e. absurd (cc (none x y));
  only = λ c r e. absurd (cc (empty c r));
}

no_and : (a b : Bool) → b ≡ false → (a && b) ≡ false
no_and true b e = e
no_and false b e = refl

pub patch-valid : (looks : Looks) (w : Win) (above : List Win) (p : Point) → w.invalid ≡ None → in_patch looks w above p ≡ false
patch-valid looks w above p e =
    let seen = has (looks.clip w) p && not (hides_behind looks (windows_at looks above p)) in
    ap (λ (o : Option Rect). seen && some_has o p) e ∙ no_and seen false refl

pub patch-outside : (looks : Looks) (w : Win) (above : List Win) (area invalid : Rect) (p : Point) → w.invalid ≡ Some invalid → has area p ≡ (has (looks.clip w) p && has invalid p) → has area p ≡ false → in_patch looks w above p ≡ false
patch-outside looks w above area invalid p is meet away = sym (open-patch looks w above area invalid p is meet) ∙ rw away refl
