-- What a window sees of a rectangle, and what an ink that lies in the rectangle puts down there.
use Rattle.std.proofs.Common.{◌≡◌, ℕ, ◌+◌, ◌≤◌, Bool, true, false, ◌&&◌, ◌||◌, pos, List, drop, get_or, refl, sym, ap, ◌∙◌, arith}
use Rattle.std.specs.Prelude.{is_some, unwrap_or, not, unsigned_abs}
use Rattle.std.proofs.lemmas.Bool.{and_parts}
use Rattle.std.proofs.lemmas.Int.{ints}
use Rattle.gfx_base.specs.declared.point.Point.{Point}
use Rattle.gfx_base.specs.declared.rect.Rect.{Rect}
use Rattle.gfx_base.specs.Rects.{has, is_empty, point_at}
use Rattle.gfx_base.specs.TileSets.{has_tile, AreTilesOf}
use Rattle.gfx_base.proofs.CallerLemmas.{has-corner, same_point}
use Rattle.frame.specs.Pictures.{Picture, HasShape, changed}
use Rattle.frame.proofs.CallerLemmas.{changed-same, changed-none}
use Rattle.paint_ops.specs.Operations.{seen_from}
use Rattle.paint_ops.specs.Rows.{IsOrigin}
use Rattle.scene.specs.declared.win.Win.{Win}
use Rattle.scene.specs.Places.{no_window}
use Rattle.scene.specs.Clips.{corner_in, clip_in}
use Rattle.scene.specs.Painting.{Looks, windows_at, hides_behind}
use Rattle.scene.specs.Damage.{is_seen}
use Rattle.scene.specs.Looks.{screen_with}
use Rattle.scene.proofs.CallerLemmas.{has-clip_in, corner_near}
use Rattle.exec_paint.specs.declared.plan.Hole.{Hole}
use Rattle.exec_paint.specs.Plans.{is_hidden}
use Rattle.exec_paint.proofs.CallerLemmas.{tiles-same, tiles-empty}
use Rattle.strokes.specs.declared.visible.Part.{Part}
use Rattle.strokes.specs.Strokes.{Ink, colour_from, puts_down, stroked}
use Rattle.strokes.specs.Parts.{is_free, sees_in, IsVisible}
use Rattle.strokes.proofs.InkLemmas.{has-sides}

and_false : (b : Bool) → (b && false) ≡ false
and_false true = refl
and_false false = refl

and_true : (b : Bool) → (b && true) ≡ b
and_true true = refl
and_true false = refl

or_none : (b : Bool) → (b || false) ≡ b
or_none true = refl
or_none false = refl

-- ---- the free points of a part

-- the part of a window's clip that lies in the rectangle
pub spot_meets : (given screen : Rect) (ws : List Win) (w : Win) (clip moved area rect : Rect) (corner : Point) → clip ≡ clip_in given ws w → given ≡ screen → ((q : Point) → has moved q ≡ has rect (seen_from corner q)) → ((q : Point) → has area q ≡ (has clip q && has moved q)) → (q : Point)
    → has area q ≡ (has (clip_in screen ws w) q && has rect (seen_from corner q))
spot_meets given screen ws w clip moved area rect corner is on_screen shifted both q =
    both q ∙ ap (λ (r : Rect). has r q && has moved q) (is ∙ ap (λ (s : Rect). clip_in s ws w) on_screen) ∙ ap (λ (b : Bool). has (clip_in screen ws w) q && b) (shifted q)

-- where holes hide what windows hide
free : (here clip rect hidden hides : Bool) → here ≡ (clip && rect) → (here ≡ true → (hidden || false) ≡ hides) → (here && not hidden) ≡ ((clip && not hides) && rect)
free true clip rect hidden hides is same =
    let both = and_parts clip rect (sym is) in
    rw (both.0, both.1) (ap not (sym (or_none hidden) ∙ same refl) ∙ sym (and_true (not hides)))
free false true rect hidden hides is same = rw (sym is) (sym (and_false (not hides)))
free false false rect hidden hides is same = refl

-- where windows hide the whole
hidden : (here clip rect hides : Bool) → here ≡ (clip && rect) → (here ≡ true → hides ≡ true) → ((clip && not hides) && rect) ≡ false
hidden true clip rect hides is all = rw (all refl) (ap (λ (b : Bool). b && rect) (and_false clip))
hidden false true rect hides is all = rw (sym is) (and_false (not hides))
hidden false false rect hides is all = refl

module _ (looks : Looks) (ws : List Win) (i : ℕ) (rect area : Rect) (corner : Point) (at : corner ≡ corner_in ws (get_or ws i no_window)) (meets : (q : Point) → has area q ≡ (has (looks.clip (get_or ws i no_window)) q && has rect (seen_from corner q))) where
  at_window : (q : Point) → has area q ≡ (has (looks.clip (get_or ws i no_window)) q && has rect (seen_from (corner_in ws (get_or ws i no_window)) q))
  at_window q = meets q ∙ ap (λ (from : Point). has (looks.clip (get_or ws i no_window)) q && has rect (seen_from from q)) at

  pub free_points : (holes : List Hole) → ((q : Point) → has area q ≡ true → (is_hidden holes q || false) ≡ hides_behind looks (windows_at looks (drop (i + 1) ws) q)) → (q : Point) → is_free area holes q ≡ sees_in looks ws i rect q
  free_points holes same q = free (has area q) (has (looks.clip (get_or ws i no_window)) q) (has rect (seen_from (corner_in ws (get_or ws i no_window)) q)) (is_hidden holes q) (hides_behind looks (windows_at looks (drop (i + 1) ws) q)) (at_window q) (same q)

  pub hidden_points : ((q : Point) → has area q ≡ true → hides_behind looks (windows_at looks (drop (i + 1) ws) q) ≡ true) → (q : Point) → sees_in looks ws i rect q ≡ false
  hidden_points all q = hidden (has area q) (has (looks.clip (get_or ws i no_window)) q) (has rect (seen_from (corner_in ws (get_or ws i no_window)) q)) (hides_behind looks (windows_at looks (drop (i + 1) ws) q)) (at_window q) (all q)

-- where the window's clip doesn't have the point
pub unseen_points : (looks : Looks) (ws : List Win) (i : ℕ) (rect : Rect) (q : Point) → has (looks.clip (get_or ws i no_window)) q ≡ false → sees_in looks ws i rect q ≡ false
unseen_points looks ws i rect q off =
    ap (λ (b : Bool). (b && not (hides_behind looks (windows_at looks (drop (i + 1) ws) q))) && has rect (seen_from (corner_in ws (get_or ws i no_window)) q)) off

-- a window that is somewhere on the screen lies near it
pub near_corner : (width height : ℕ) (ws : List Win) (w : Win) (clip : Rect) → w.w ≤ 4096 → w.h ≤ 4096 → width ≤ 1024 → height ≤ 768 → clip ≡ clip_in (screen_with width height) ws w → is_empty clip ≡ false → IsOrigin (corner_in ws w).x × IsOrigin (corner_in ws w).y
near_corner width height ws w clip narrow low wide high same some =
    let p = point_at clip.x0 clip.y0 in
    let here : has (clip_in (screen_with width height) ws w) p ≡ true = ap (λ (r : Rect). has r p) (sym same) ∙ has-corner clip some in
    let s = has-sides (screen_with width height) p.x p.y (has-clip_in (screen_with width height) ws w p here) in
    let x : clip.x0 ≡ pos (unsigned_abs clip.x0) = omega (arith, ints, s.left) in
    let y : clip.y0 ≡ pos (unsigned_abs clip.y0) = omega (arith, ints, s.top) in
    corner_near (screen_with width height) ws w (unsigned_abs clip.x0) (unsigned_abs clip.y0) narrow low (omega (arith, ints, s.left, s.right, wide)) (omega (arith, ints, s.top, s.bottom, high))
    (ap (λ (q : Point). has (clip_in (screen_with width height) ws w) q) (same_point _ _ _ _ (sym x) (sym y)) ∙ here)

-- ---- an ink that lies in the rectangle

in_rect : (seen rect some : Bool) → (some ≡ true → rect ≡ true) → ((seen && rect) && some) ≡ (seen && some)
in_rect seen rect true inside = rw (inside refl) (ap (λ (b : Bool). b && true) (and_true seen))
in_rect seen rect false inside = and_false (seen && rect) ∙ sym (and_false seen)

module _ (width height : ℕ) (looks : Looks) (ws : List Win) (i : ℕ) (rect : Rect) (ink : Ink) (inside : (q : Point) → is_some (ink q) ≡ true → has rect q ≡ true) where
  abbrev own : Point
  own = corner_in ws (get_or ws i no_window)

  seen_puts : (q : Point) → (sees_in looks ws i rect q && is_some (ink (seen_from own q))) ≡ puts_down looks ws i ink q
  seen_puts q = in_rect (is_seen looks (get_or ws i no_window) (drop (i + 1) ws) q) (has rect (seen_from own q)) (is_some (ink (seen_from own q))) (inside (seen_from own q))

  free_puts : (part : Part) (holes : List Hole) → IsVisible width height looks ws i rect part holes → (q : Point) → (is_free part.area holes q && is_some (ink (seen_from part.corner q))) ≡ puts_down looks ws i ink q
  free_puts part holes visible q =
      ap (λ (b : Bool). b && is_some (ink (seen_from part.corner q))) (visible.points q)
      ∙ ap (λ (from : Point). sees_in looks ws i rect q && is_some (ink (seen_from from q))) visible.corner
      ∙ seen_puts q

  pub ink_picture : (p now : Picture) (part : Part) (holes : List Hole) → HasShape p → IsVisible width height looks ws i rect part holes
      → now ≡ changed p (λ x y. is_free part.area holes (point_at (pos x) (pos y)) && is_some (ink (seen_from part.corner (point_at (pos x) (pos y))))) (λ x y. unwrap_or (ink (seen_from part.corner (point_at (pos x) (pos y)))) 0) → now ≡ stroked looks ws i ink p
  ink_picture p now part holes shaped visible e =
      e ∙ changed-same p (λ x y. is_free part.area holes (point_at (pos x) (pos y)) && is_some (ink (seen_from part.corner (point_at (pos x) (pos y))))) (λ x y. puts_down looks ws i ink (point_at (pos x) (pos y)))
      (λ x y. unwrap_or (ink (seen_from part.corner (point_at (pos x) (pos y)))) 0) (λ x y. unwrap_or (colour_from ws i ink (point_at (pos x) (pos y))) 0) shaped
      (λ x y _ _. free_puts part holes visible (point_at (pos x) (pos y))) (λ x y _ _ _. ap (λ (from : Point). unwrap_or (ink (seen_from from (point_at (pos x) (pos y)))) 0) visible.corner)

  pub ink_tiles : (columns rows : ℕ) (part : Part) (holes : List Hole) (tiles : List ℕ) → IsVisible width height looks ws i rect part holes
      → AreTilesOf columns rows (λ x y. is_free part.area holes (point_at (pos x) (pos y)) && is_some (ink (seen_from part.corner (point_at (pos x) (pos y))))) tiles → AreTilesOf columns rows (λ x y. puts_down looks ws i ink (point_at (pos x) (pos y))) tiles
  ink_tiles columns rows part holes tiles visible are =
      tiles-same columns rows (λ x y. is_free part.area holes (point_at (pos x) (pos y)) && is_some (ink (seen_from part.corner (point_at (pos x) (pos y))))) (λ x y. puts_down looks ws i ink (point_at (pos x) (pos y))) tiles
      (λ x y. free_puts part holes visible (point_at (pos x) (pos y))) are

  unseen_puts : ((q : Point) → sees_in looks ws i rect q ≡ false) → (x y : ℕ) → puts_down looks ws i ink (point_at (pos x) (pos y)) ≡ false
  unseen_puts none x y = sym (seen_puts (point_at (pos x) (pos y))) ∙ ap (λ (b : Bool). b && is_some (ink (seen_from own (point_at (pos x) (pos y))))) (none (point_at (pos x) (pos y)))

  pub unseen_picture : (p : Picture) → HasShape p → ((q : Point) → sees_in looks ws i rect q ≡ false) → p ≡ stroked looks ws i ink p
  unseen_picture p shaped none = sym (changed-none p (λ x y. puts_down looks ws i ink (point_at (pos x) (pos y))) (λ x y. unwrap_or (colour_from ws i ink (point_at (pos x) (pos y))) 0) shaped (λ x y _ _. unseen_puts none x y))

  pub unseen_tiles : (columns rows : ℕ) (tiles : List ℕ) → ((k r : ℕ) → has_tile tiles k r ≡ false) → ((q : Point) → sees_in looks ws i rect q ≡ false) → AreTilesOf columns rows (λ x y. puts_down looks ws i ink (point_at (pos x) (pos y))) tiles
  unseen_tiles columns rows tiles empty none = tiles-empty columns rows (λ x y. puts_down looks ws i ink (point_at (pos x) (pos y))) tiles (unseen_puts none) empty
