-- A stroke on a device is drawn on all points of the device that lie in the stroke's bounds.
use Rattle.std.proofs.Common.{◌≡◌, ℕ, ◌<◌, Bool, true, false, ◌&&◌, pos, [], refl, sym, ap, ◌∙◌, arith}
use Rattle.std.specs.Prelude.{is_some, unwrap_or}
use Rattle.std.proofs.lemmas.Bool.{false≢true}
use Rattle.std.proofs.lemmas.Int.{ints}
use Rattle.gfx_base.specs.declared.point.Point.{Point}
use Rattle.gfx_base.specs.declared.rect.Rect.{Rect}
use Rattle.gfx_base.specs.Rects.{has, point_at}
use Rattle.gfx_base.proofs.CallerLemmas.{same_point}
use Rattle.frame.specs.Pictures.{Picture, HasShape}
use Rattle.frame.proofs.CallerLemmas.{changed-same, changed-none}
use Rattle.paint_ops.specs.Kinds.{Assets}
use Rattle.paint_ops.specs.Operations.{seen_from}
use Rattle.context.specs.declared.context.Context.{Context}
use Rattle.scene.specs.Looks.{screen_with}
use Rattle.strokes.specs.declared.shape.Shape.{Shape}
use Rattle.strokes.specs.Strokes.{colour_of_stroke, inked_whole}
use Rattle.strokes.specs.Parts.{is_free, colour_seen, is_inked, inked}
use Rattle.strokes.proofs.InkLemmas.{has-between}

-- the points of a picture lie on the screen of its sides
on_whole : (width height x y : ℕ) → x < width → y < height → has (screen_with width height) (point_at (pos x) (pos y)) ≡ true
on_whole width height x y x_in y_in = has-between (screen_with width height) (pos x) (pos y) (omega (arith, ints)) (omega (arith, ints, x_in)) (omega (arith, ints)) (omega (arith, ints, y_in))

-- from the corner of a device each point is seen where it lies
pub seen_whole : (q : Point) → seen_from (point_at (pos 0) (pos 0)) q ≡ q
seen_whole q = same_point _ _ _ _ (omega (arith, ints)) (omega (arith, ints))

put : (area bounds whole some : Bool) → area ≡ (bounds && whole) → whole ≡ true → (some ≡ true → bounds ≡ true) → ((area && true) && some) ≡ some
put area bounds whole true is on inside = rw (is, on, inside refl) refl
put true bounds whole false is on inside = refl
put false bounds whole false is on inside = refl

none_put : (area bounds whole some : Bool) → area ≡ (bounds && whole) → whole ≡ true → (some ≡ true → bounds ≡ true) → area ≡ false → some ≡ false
none_put area bounds whole true is on inside none = absurd (false≢true (sym none ∙ is ∙ rw (on, inside refl) refl))
none_put area bounds whole false is on inside none = refl

module _ (p : Picture) (assets : Assets) (c : Context) (shape : Shape) (area bounds : Rect) (shaped : HasShape p) (meets : (q : Point) → has area q ≡ (has bounds q && has (screen_with p.width p.height) q))
    (all : (q : Point) → is_some (colour_of_stroke assets c shape q) ≡ true → has bounds q ≡ true) where
  pub device_drawn : (now : Picture) → now ≡ inked assets c shape (point_at (pos 0) (pos 0)) area [] p → now ≡ inked_whole (colour_of_stroke assets c shape) p
  device_drawn now e =
      e ∙ changed-same p (is_inked assets c shape (point_at (pos 0) (pos 0)) area []) (λ x y. is_some (colour_of_stroke assets c shape (point_at (pos x) (pos y)))) (λ x y. unwrap_or (colour_seen assets c shape (point_at (pos 0) (pos 0)) x y) 0)
      (λ x y. unwrap_or (colour_of_stroke assets c shape (point_at (pos x) (pos y))) 0) shaped
      (λ x y x_in y_in.
      let q = point_at (pos x) (pos y) in
      ap (λ (r : Point). is_free area [] q && is_some (colour_of_stroke assets c shape r)) (seen_whole q)
      ∙ put (has area q) (has bounds q) (has (screen_with p.width p.height) q) (is_some (colour_of_stroke assets c shape q)) (meets q) (on_whole p.width p.height x y x_in y_in) (all q))
      (λ x y x_in y_in h. ap (λ (r : Point). unwrap_or (colour_of_stroke assets c shape r) 0) (seen_whole (point_at (pos x) (pos y))))

  pub device_kept : ((q : Point) → has area q ≡ false) → p ≡ inked_whole (colour_of_stroke assets c shape) p
  device_kept none =
      sym (changed-none p (λ x y. is_some (colour_of_stroke assets c shape (point_at (pos x) (pos y)))) (λ x y. unwrap_or (colour_of_stroke assets c shape (point_at (pos x) (pos y))) 0) shaped
      (λ x y x_in y_in.
      let q = point_at (pos x) (pos y) in
      none_put (has area q) (has bounds q) (has (screen_with p.width p.height) q) (is_some (colour_of_stroke assets c shape q)) (meets q) (on_whole p.width p.height x y x_in y_in) (all q) (none q)))
