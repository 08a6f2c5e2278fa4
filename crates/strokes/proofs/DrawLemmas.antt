-- A stroke on the free points of an area: what lies behind its shape, and the shape.
use Rattle.std.proofs.Common.{◌≡◌, ℕ, Bool, true, false, cond, ◌&&◌, ℤ, pos, Option, Some, None, List, refl, sym, ap, ◌∙◌}
use Rattle.std.specs.Prelude.{is_some, unwrap_or}
use Rattle.std.proofs.lemmas.Bool.{and_parts}
use Rattle.gfx_base.specs.declared.point.Point.{Point}
use Rattle.gfx_base.specs.declared.rect.Rect.{Rect}
use Rattle.gfx_base.specs.Rects.{has, point_at}
use Rattle.frame.specs.Pictures.{Picture, HasShape, colour_at, changed}
use Rattle.frame.proofs.CallerLemmas.{changed-from_points, changed-same, colour_at-changed, has_shape-changed}
use Rattle.paint_ops.specs.declared.op.Op.{Op}
use Rattle.paint_ops.specs.Kinds.{Assets}
use Rattle.paint_ops.specs.Operations.{Inputs, seen_from, or_behind, on_points, colour_of_operation}
use Rattle.paint_ops.specs.Rows.{colour_on_screen}
use Rattle.context.specs.declared.context.Context.{Context}
use Rattle.exec_paint.specs.declared.plan.Hole.{Hole}
use Rattle.strokes.specs.declared.shape.Shape.{Shape}
use Rattle.strokes.specs.declared.shape.Shape.TheVariants.{Fill, Frame, Line, Bitmap, Text}
use Rattle.strokes.specs.Strokes.{no_inputs, operation_of, colour_behind, colour_of_stroke}
use Rattle.strokes.specs.Parts.{is_free, bounds_of, LiesWithin, colour_seen, is_inked, inked}
use Rattle.strokes.proofs.ShapeLemmas.{operation_alone, behind_normal}

-- a shape's colours don't depend on the window
pub any_inputs : (assets : Assets) (i : Inputs) (c : Context) (shape : Shape) (p : Point) → colour_of_operation assets i (operation_of c shape) p ≡ colour_of_operation assets no_inputs (operation_of c shape) p
unfolding colour_of_operation
any_inputs assets i c (Fill x0 y0 x1 y1) p = refl
any_inputs assets i c (Frame x0 y0 x1 y1) p = refl
any_inputs assets i c (Line x0 y0 x1 y1) p = refl
any_inputs assets i c (Bitmap bitmap x y) p = refl
any_inputs assets i c (Text x y string) p = refl

-- what the operation puts on a point of the screen
abbrev pub drawn_seen : Assets → Context → Shape → Point → ℕ → ℕ → Option ℕ
drawn_seen assets c shape corner u v = colour_of_operation assets no_inputs (operation_of c shape) (seen_from corner (point_at (pos u) (pos v)))

-- the picture with the shape alone
abbrev pub with_shape : Assets → Context → Shape → Point → Rect → List Hole → Picture → Picture
with_shape assets c shape corner area holes p =
    changed p (λ u v. is_free area holes (point_at (pos u) (pos v)) && is_some (drawn_seen assets c shape corner u v)) (λ u v. unwrap_or (drawn_seen assets c shape corner u v) 0)

pub shape_drawn : (p now : Picture) (assets : Assets) (i : Inputs) (c : Context) (shape : Shape) (o : Op) (corner : Point) (area : Rect) (holes : List Hole) → HasShape p → o ≡ operation_of c shape
    → now ≡ changed p (λ u v. is_free area holes (point_at (pos u) (pos v)) && is_some (colour_on_screen assets i o corner u v)) (λ u v. unwrap_or (colour_on_screen assets i o corner u v) 0)
    → now ≡ with_shape assets c shape corner area holes p
shape_drawn p now assets i c shape o corner area holes shaped is e =
    let same : (u v : ℕ) → colour_on_screen assets i o corner u v ≡ drawn_seen assets c shape corner u v =
    λ u v. ap (λ (f : Op). colour_on_screen assets i f corner u v) is ∙ any_inputs assets i c shape (seen_from corner (point_at (pos u) (pos v))) in
    e ∙ changed-same p _ (λ u v. is_free area holes (point_at (pos u) (pos v)) && is_some (drawn_seen assets c shape corner u v)) _ (λ u v. unwrap_or (drawn_seen assets c shape corner u v) 0) shaped
    (λ u v _ _. ap (λ (q : Option ℕ). is_free area holes (point_at (pos u) (pos v)) && is_some q) (same u v))
    (λ u v _ _ _. ap (λ (q : Option ℕ). unwrap_or q 0) (same u v))

-- where no colour lies behind the shape
pub stroke_alone : (p now : Picture) (assets : Assets) (c : Context) (shape : Shape) (corner : Point) (area : Rect) (holes : List Hole) → HasShape p → ((q : Point) → colour_behind assets c shape q ≡ None)
    → now ≡ with_shape assets c shape corner area holes p → now ≡ inked assets c shape corner area holes p
stroke_alone p now assets c shape corner area holes shaped none e =
    let same : (u v : ℕ) → drawn_seen assets c shape corner u v ≡ colour_seen assets c shape corner u v =
    λ u v. sym (operation_alone assets c shape (seen_from corner (point_at (pos u) (pos v))) (none (seen_from corner (point_at (pos u) (pos v))))) in
    e ∙ changed-same p _ (is_inked assets c shape corner area holes) _ (λ u v. unwrap_or (colour_seen assets c shape corner u v) 0) shaped
    (λ u v _ _. ap (λ (q : Option ℕ). is_free area holes (point_at (pos u) (pos v)) && is_some q) (same u v))
    (λ u v _ _ _. ap (λ (q : Option ℕ). unwrap_or q 0) (same u v))

over : (free : Bool) (behind drawn : Option ℕ) (bk old : ℕ) → (free ≡ true → behind ≡ Some bk)
    → cond (free && is_some drawn) (unwrap_or drawn 0) (cond free bk old) ≡ cond (free && is_some (or_behind behind drawn)) (unwrap_or (or_behind behind drawn) 0) old
over true behind None bk old e = rw (e refl) refl
over true behind (Some d) bk old e = refl
over false behind drawn bk old e = refl

-- a text over the colour behind it
pub text_over : (p mid now : Picture) (assets : Assets) (c : Context) (x y : ℤ) (string : ℕ) (corner : Point) (area : Rect) (holes : List Hole) → HasShape p → c.trans_text ≡ false
    → LiesWithin area corner (bounds_of assets c (Text x y string)) → mid ≡ changed p (λ u v. is_free area holes (point_at (pos u) (pos v))) (λ u v. c.bk)
    → now ≡ with_shape assets c (Text x y string) corner area holes mid → now ≡ inked assets c (Text x y string) corner area holes p
unfolding colour_of_stroke
text_over p mid now assets c x y string corner area holes shaped normal inside first second =
    let free : ℕ → ℕ → Bool = λ u v. is_free area holes (point_at (pos u) (pos v)) in
    let filled = changed p free (λ u v. c.bk) in
    let filled_shape : HasShape filled = has_shape-changed p free (λ u v. c.bk) shaped in
    let drawn : ℕ → ℕ → Option ℕ = drawn_seen assets c (Text x y string) corner in
    second ∙ ap (λ (q : Picture). with_shape assets c (Text x y string) corner area holes q) first
    ∙ changed-from_points p (with_shape assets c (Text x y string) corner area holes filled) (is_inked assets c (Text x y string) corner area holes) (λ u v. unwrap_or (colour_seen assets c (Text x y string) corner u v) 0) shaped
    (has_shape-changed filled (λ u v. free u v && is_some (drawn u v)) (λ u v. unwrap_or (drawn u v) 0) filled_shape) refl refl (λ u v u_in v_in.
    let local = seen_from corner (point_at (pos u) (pos v)) in
    colour_at-changed filled (λ u v. free u v && is_some (drawn u v)) (λ u v. unwrap_or (drawn u v) 0) u v u_in v_in
    ∙ ap (λ (old : ℕ). cond (free u v && is_some (drawn u v)) (unwrap_or (drawn u v) 0) old) (colour_at-changed p free (λ u v. c.bk) u v u_in v_in)
    ∙ over (free u v) (colour_behind assets c (Text x y string) local) (drawn u v) c.bk (colour_at p u v)
    (λ h. behind_normal assets c x y string local normal ∙ ap (λ (b : Bool). on_points b c.bk) (inside (point_at (pos u) (pos v)) (and_parts (has area (point_at (pos u) (pos v))) _ h).0)))
