-- Lines that a pen puts on one row, point by point.
use Rattle.std.proofs.Common.{◌≡◌, ◌≢◌, ℕ, suc, ◌+◌, ◌^◌, ◌<◌, ◌≤◌, Bool, true, false, ◌&&◌, ◌==◌, ℤ, pos, ◌+ℤ◌, ◌-ℤ◌, List, [], ◌∷◌, fold, Some, refl, sym, ap, ◌∙◌, arith}
use Rattle.std.specs.Prelude.{unsigned_abs, Contains}
use Rattle.std.specs.List.{list_any, AllPairs}
use Rattle.std.proofs.lemmas.Bool.{and_parts, and_from, eqb-true, eq-eqb, false_from_ne_true}
use Rattle.std.proofs.lemmas.Int.{ints}
use Rattle.std.proofs.lemmas.List.Folds.{Any-from_list_any, list_any-from_Any}
use Rattle.gfx_base.specs.declared.point.Point.{Point}
use Rattle.gfx_base.specs.declared.rect.Rect.{Rect}
use Rattle.gfx_base.specs.Rects.{has, point_at}
use Rattle.gfx_base.proofs.CallerLemmas.{same_point}
use Rattle.line_ink.specs.Lines.{is_on_line, points_of_line, clipped}
use Rattle.line_ink.proofs.CallerLemmas.{clipped-member, clipped-once}
use Rattle.frame.specs.Canvases.{Canvas}
use Rattle.frame.specs.Pictures.{HasShape}
use Rattle.frame.specs.Areas.{is_at}
use Rattle.frame.proofs.CallerLemmas.{has_shape-changed}
use Rattle.paint_ops.specs.declared.pen.Pen.{Pen}
use Rattle.paint_ops.specs.declared.strip.Strip.{Strip}
use Rattle.paint_ops.specs.Operations.{on_points, seen_from}
use Rattle.paint_ops.specs.Rows.{row_written}
use Rattle.paint_ops.specs.Strips.{FitsIn, in_strip}
use Rattle.paint_ops.specs.Pens.{IsReady, after_point}
use Rattle.paint_ops.proofs.CanvasLemmas.{count-below, written-is_at, row_written-nothing, row_written-more, row_written-part}
use Rattle.paint_ops.proofs.StripLemmas.{same_test, in-parts, in-from}
use Rattle.paint_ops.proofs.FillLemmas.{has-parts, has-from}

-- ---- a pen that puts points

-- a pen after a point
abbrev pub pen_after : Pen → Point → Pen
pen_after pen p = record pen { target = record pen.target { now = after_point pen.target.now pen.origin pen.y pen.colour p } }

-- whether one of the points lies in the column
abbrev pub has_column : ℤ → List Point → ℕ → Bool
has_column origin points u = list_any (λ (p : Point). u == unsigned_abs (origin +ℤ p.x)) points

-- the points lie in columns of a row of this width, each in one of its own
abbrev pub HaveColumns : ℕ → ℤ → List Point → Type 0
HaveColumns width origin [] = Unit {0}
HaveColumns width origin (p ∷ points) =
    (unsigned_abs (origin +ℤ p.x) < width) × (has_column origin points (unsigned_abs (origin +ℤ p.x)) ≡ false) × HaveColumns width origin points

off_column : (origin : ℤ) (points : List Point) (x u : ℕ) → has_column origin points x ≡ false → (u == x) ≡ true → has_column origin points u ≡ false
off_column origin points x u off at = let e = eqb-true u x at in rw e off

pub pen-canvas : (pen : Pen) (points : List Point) → HasShape pen.target.now.picture → pen.target.now.writes < 2 ^ 64 → HaveColumns pen.target.now.picture.width pen.origin points
    → (fold pen_after pen points).target.now ≡ row_written pen.target.now pen.y (has_column pen.origin points) (λ _. Some pen.colour)
pen-canvas pen [] shape below columns = sym (row_written-nothing pen.target.now pen.y (λ _. false) (λ _. Some pen.colour) shape below (λ u old _. refl))
pen-canvas pen (p ∷ points) shape below columns =
    let x = unsigned_abs (pen.origin +ℤ p.x) in
    let f = pen.target.now in
    let first = written-is_at f x pen.y pen.colour shape columns.0 in
    pen-canvas (pen_after pen p) points (has_shape-changed f.picture (is_at x pen.y) (λ _ _. pen.colour) shape) (count-below (f.writes + 1)) columns.2
    ∙ ap (λ (g : Canvas). row_written g pen.y (has_column pen.origin points) (λ _. Some pen.colour)) first
    ∙ row_written-more f pen.y (λ u. u == x) (has_column pen.origin points) (has_column pen.origin (p ∷ points)) (λ _. Some pen.colour) shape (λ u _. off_column pen.origin points x u columns.1) (λ u _. refl)

pub pen-reference : (pen : Pen) (points : List Point) → (fold pen_after pen points).target.ghost_name ≡ pen.target.ghost_name
pen-reference pen [] = refl
pen-reference pen (p ∷ points) = pen-reference (pen_after pen p) points

-- ---- the clipped points of a line

-- an element that passes a test
any-contains : {X : Type 0} (f : X → Bool) (xs : List X) (x : X) → Contains xs x → f x ≡ true → list_any f xs ≡ true
any-contains f xs x h pass = list_any-from_Any f xs (h.0, x, h.1, h.2, pass)

-- which element passes it
any-element : {X : Type 0} (f : X → Bool) (xs : List X) → list_any f xs ≡ true → (x : X) × Contains xs x × (f x ≡ true)
any-element f xs h = let a = Any-from_list_any f xs h in (a.1, (a.0, a.2, a.3), a.4)

-- the clip of a strip, as it is seen from the origin
abbrev pub clip_of : Strip → Point → Rect
clip_of s origin = record { x0 = pos s.left -ℤ origin.x; y0 = pos s.y -ℤ origin.y; x1 = pos s.right -ℤ origin.x; y1 = pos s.y -ℤ origin.y }

-- a point in the clip is that of its column
seen_again : (s : Strip) (origin p : Point) (u : ℕ) → has (clip_of s origin) p ≡ true → u ≡ unsigned_abs (origin.x +ℤ p.x) → (p ≡ seen_from origin (point_at (pos u) (pos s.y))) × (s.left ≤ u) × (u ≤ s.right)
seen_again s origin p u h e =
    let b = has-parts (clip_of s origin) p.x p.y h in
    let l = b.left in
    let r = b.right in
    let t = b.top in
    let d = b.bottom in
    (same_point p.x p.y (pos u -ℤ origin.x) (pos s.y -ℤ origin.y) (omega (arith, ints)) (omega (arith, ints)), omega (arith, ints), omega (arith, ints))

-- the columns of a line's points in a strip
pub has_column-line : (s : Strip) (a b origin : Point) (u : ℕ)
    → has_column origin.x (clipped (clip_of s origin) (points_of_line a b)) u ≡ (in_strip s u && is_on_line a b (seen_from origin (point_at (pos u) (pos s.y))))
has_column-line s a b origin u =
    let points = clipped (clip_of s origin) (points_of_line a b) in
    let p = seen_from origin (point_at (pos u) (pos s.y)) in
    let here = λ (q : Point). u == unsigned_abs (origin.x +ℤ q.x) in
    same_test _ _
    (λ h. let found = any-element here points h in
    let q = found.0 in
    let is = (clipped-member (clip_of s origin) a b q).0 found.1 in
    let again = seen_again s origin q u is.1 (eqb-true u (unsigned_abs (origin.x +ℤ q.x)) found.2) in
    and_from _ _ (in-from s.left s.right u again.1 again.2) (ap (is_on_line a b) (sym again.0) ∙ is.0))
    (λ h. let both = and_parts (in_strip s u) (is_on_line a b p) h in
    let w = in-parts s.left s.right u both.0 in
    let inside = has-from (clip_of s origin) p.x p.y (omega (arith, ints)) (omega (arith, ints)) (omega (arith, ints)) (omega (arith, ints)) in
    any-contains here points p ((clipped-member (clip_of s origin) a b p).1 (both.1, inside)) (eq-eqb u (unsigned_abs (origin.x +ℤ p.x)) (omega (arith, ints))))

-- the next points of those that differ
once_after : (p : Point) (points : List Point) → AllPairs ◌≢◌ (p ∷ points) → AllPairs ◌≢◌ points
once_after p points once i j d before within = once (suc i) (suc j) d (omega arith) (omega arith)

once_first : (p : Point) (points : List Point) → AllPairs ◌≢◌ (p ∷ points) → Contains points p → ⊥
once_first p points once h = once 0 (suc h.0) p (omega arith) (omega (arith, h.1)) (sym h.2)

-- points of the clip that differ lie in columns of their own
columns_of : (width : ℕ) (s : Strip) (origin : Point) (points : List Point) → s.right < width → ((q : Point) → Contains points q → has (clip_of s origin) q ≡ true) → AllPairs ◌≢◌ points → HaveColumns width origin.x points
columns_of width s origin [] within inside once = tt
columns_of width s origin (p ∷ points) within inside once =
    let x = unsigned_abs (origin.x +ℤ p.x) in
    let here = λ (q : Point). x == unsigned_abs (origin.x +ℤ q.x) in
    let first = seen_again s origin p x (inside p (0, omega arith, refl)) refl in (
      omega (arith, first.2),
      false_from_ne_true (has_column origin.x points x) (λ h. let found = any-element here points h in
          let q = found.0 in
          let again = seen_again s origin q x (inside q (contains_after p q points found.1)) (eqb-true x (unsigned_abs (origin.x +ℤ q.x)) found.2) in
          once_first p points once (rw (first.0 ∙ sym again.0) found.1)),
      columns_of width s origin points within (λ q h. inside q (contains_after p q points h)) (once_after p points once),
    )
  where
    contains_after : (p q : Point) (points : List Point) → Contains points q → Contains (p ∷ points) q
    contains_after p q points h = (suc h.0, omega (arith, h.1), h.2)

-- what a pen leaves of a line
pub record IsInked (pen out : Pen) (s : Strip) (a b origin : Point) : Type 0 where
  pub reference : pen.target.ghost_name ≡ out.target.ghost_name
  pub canvas : out.target.now ≡ row_written pen.target.now s.y (in_strip s) (λ u. on_points (is_on_line a b (seen_from origin (point_at (pos u) (pos s.y)))) pen.colour)

pub inked : (pen out : Pen) (s : Strip) (a b origin : Point) (clip : Rect) → out ≡ fold pen_after pen (clipped clip (points_of_line a b)) → clip ≡ clip_of s origin → pen.origin ≡ origin.x → pen.y ≡ s.y → FitsIn pen.target.now s
    → IsInked pen out s a b origin
inked pen out s a b origin clip walked same at row fits =
    let points = clipped (clip_of s origin) (points_of_line a b) in
    let is : out ≡ fold pen_after pen points = rw (← same) walked in
    let width = pen.target.now.picture.width in
    let columns : HaveColumns width pen.origin points = rw at (columns_of width s origin points fits.within (λ q h. ((clipped-member (clip_of s origin) a b q).0 h).1) (clipped-once (clip_of s origin) a b)) in
    record {
      reference = sym (ap (λ (q : Pen). q.target.ghost_name) is ∙ pen-reference pen points);
      canvas =
          ap (λ (q : Pen). q.target.now) is
          ∙ pen-canvas pen points fits.shape fits.count columns
          ∙ rw (row, at) (row_written-part pen.target.now s.y pen.colour (has_column origin.x points) (in_strip s) (λ u. is_on_line a b (seen_from origin (point_at (pos u) (pos s.y)))) fits.shape (λ u _. has_column-line s a b origin u));
    }

-- the points of the clip may be put
pub clip-ready : (f : Canvas) (s : Strip) (origin : Point) (clip : Rect) (o : ℤ) (q : Point) → clip ≡ clip_of s origin → o ≡ origin.x → FitsIn f s → has clip q ≡ true → IsReady f.picture o s.y q
clip-ready f s origin clip o q same at fits h =
    let b = has-parts (clip_of s origin) q.x q.y (rw same at h) in
    let l = b.left in
    let r = b.right in
    record {
      row = fits.row;
      not_too_wide = fits.shape.most_width;
      not_left = omega (arith, ints);
      not_right = omega (arith, ints, fits.within);
    }
