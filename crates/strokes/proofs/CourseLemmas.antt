-- The points of a line, one after the other along its axis.
use Rattle.std.proofs.Common.{◌≡◌, ℕ, ◌<◌, ◌≤◌, Bool, true, false, cond, ◌&&◌, ◌||◌, ◌==◌, ℤ, pos, ◌+ℤ◌, ◌-ℤ◌, ◌<ℤ◌, ◌≤ℤ◌, List, refl, sym, ap, ◌∙◌, inl, inr, arith}
use Rattle.std.specs.Prelude.{int_lt, unsigned_abs}
use Rattle.std.specs.Int.{int_min, int_max}
use Rattle.std.proofs.lemmas.Bool.{cases_Bool, and_parts, and_from, or_cases, or_left, or_right, eqb-true, eq-eqb, false≢true}
use Rattle.std.proofs.lemmas.Bool.Decides.{nat_tests, Decides-int_eq}
use Rattle.std.proofs.lemmas.Int.{ints, clamps}
use Rattle.gfx_base.specs.declared.point.Point.{Point}
use Rattle.gfx_base.specs.declared.rect.Rect.{Rect}
use Rattle.gfx_base.specs.Rects.{has, point_at}
use Rattle.gfx_base.specs.TileSets.{has_tile, AreTilesOf}
use Rattle.gfx_base.proofs.CallerLemmas.{same_point}
use Rattle.line_ink.specs.Lines.{flipped, left_of, right_of, is_same, is_wide, y_at, is_on_wide, is_on_line}
use Rattle.paint_ops.specs.Operations.{seen_from}
use Rattle.paint_ops.specs.Panes.{point_on_screen}
use Rattle.paint_ops.proofs.CallerLemmas.{same_test, within-from}
use Rattle.exec_paint.specs.declared.plan.Hole.{Hole}
use Rattle.exec_paint.specs.Areas.{IsOn}
use Rattle.exec_paint.proofs.CallerLemmas.{tiles-empty, tiles-same}
use Rattle.strokes.specs.Parts.{is_free, is_tile_of, turned}
use Rattle.strokes.proofs.InkLemmas.{LiesBetween, has-sides}
use Rattle.strokes.proofs.LineLemmas.{is_same-both, is_same-from, on_wide-parts}
use Rattle.strokes.proofs.TileLemmas.{in-area, are-point}

-- a point of the screen as the line sees it
abbrev pub local : Point → Bool → ℕ → ℕ → Point
local corner s u v = turned s (seen_from corner (point_at (pos u) (pos v)))

-- the free points of an area on a line
abbrev pub on_course : Point → Point → Bool → Point → Rect → List Hole → ℕ → ℕ → Bool
on_course l r s corner area holes u v = is_free area holes (point_at (pos u) (pos v)) && is_on_wide l r (local corner s u v)

-- those before x
abbrev pub to_step : Point → Point → Bool → Point → Rect → List Hole → ℤ → ℕ → ℕ → Bool
to_step l r s corner area holes x u v = on_course l r s corner area holes u v && int_lt (local corner s u v).x x

-- ---- points that are turned and moved

turned_twice : (s : Bool) (p : Point) → turned s (turned s p) ≡ p
turned_twice true p = refl
turned_twice false p = refl

seen_again : (corner t : Point) → seen_from corner (point_on_screen corner t) ≡ t
seen_again corner t = same_point _ _ _ _ (omega (arith, ints)) (omega (arith, ints))

placed_again : (corner q : Point) → point_on_screen corner (seen_from corner q) ≡ q
placed_again corner q = same_point _ _ _ _ (omega (arith, ints)) (omega (arith, ints))

-- the line's point at x as a point of the screen
abbrev pub course_point : Point → Point → Bool → Point → ℤ → Point
course_point l r s corner x = point_on_screen corner (turned s (point_at x (y_at l r x)))

-- it is seen as it was
point_back : (l r corner : Point) (s : Bool) (x : ℤ) → turned s (seen_from corner (course_point l r s corner x)) ≡ point_at x (y_at l r x)
point_back l r corner s x = ap (turned s) (seen_again corner (turned s (point_at x (y_at l r x)))) ∙ turned_twice s (point_at x (y_at l r x))

-- a point that is seen so is the line's
point_is : (l r corner q : Point) (s : Bool) (x : ℤ) → turned s (seen_from corner q) ≡ point_at x (y_at l r x) → q ≡ course_point l r s corner x
point_is l r corner q s x e =
    sym (placed_again corner q) ∙ ap (point_on_screen corner) (sym (turned_twice s (seen_from corner q)) ∙ ap (turned s) e)

-- ---- one step

step_on : (l r corner p : Point) (s : Bool) (area : Rect) (holes : List Hole) (x : ℤ) (u v : ℕ) → p ≡ course_point l r s corner x → to_step l r s corner area holes (x +ℤ pos 1) u v ≡ true
    → (to_step l r s corner area holes x u v || ((u == unsigned_abs p.x && v == unsigned_abs p.y) && is_free area holes p)) ≡ true
step_on l r corner p s area holes x u v is h =
    let q = point_at (pos u) (pos v) in
    let t = local corner s u v in
    let both = and_parts (on_course l r s corner area holes u v) (int_lt t.x (x +ℤ pos 1)) h in
    let free = and_parts (is_free area holes q) (is_on_wide l r t) both.0 in
    elim (cases_Bool (int_lt t.x x)) [
      | inl before ↦ or_left _ _ (and_from _ _ both.0 before)
      | inr not_before ↦
          let at : t.x ≡ x = grind (arith, ints, both.1, not_before) in
          let y = (on_wide-parts l r t free.1).y in
          let same : q ≡ p = point_is l r corner q s x (same_point t.x t.y x (y_at l r x) at (y ∙ ap (y_at l r) at)) ∙ sym is in
          or_right _ _ (and_from _ _ (and_from _ _ (eq-eqb u (unsigned_abs p.x) (ap (λ (r : Point). unsigned_abs r.x) same)) (eq-eqb v (unsigned_abs p.y) (ap (λ (r : Point). unsigned_abs r.y) same))) (ap (is_free area holes) (sym same) ∙ free.0))
    ]

step_back : (l r corner p : Point) (s : Bool) (area : Rect) (holes : List Hole) (x : ℤ) (u v : ℕ) → l.x ≤ℤ x → x ≤ℤ r.x → p ≡ course_point l r s corner x → (is_free area holes p ≡ true → (p.x ≡ pos (unsigned_abs p.x)) × (p.y ≡ pos (unsigned_abs p.y)))
    → (to_step l r s corner area holes x u v || ((u == unsigned_abs p.x && v == unsigned_abs p.y) && is_free area holes p)) ≡ true → to_step l r s corner area holes (x +ℤ pos 1) u v ≡ true
step_back l r corner p s area holes x u v from to is natural h =
    elim (or_cases (to_step l r s corner area holes x u v) ((u == unsigned_abs p.x && v == unsigned_abs p.y) && is_free area holes p) h) [
      | inl before ↦
          let both = and_parts (on_course l r s corner area holes u v) (int_lt (local corner s u v).x x) before in
          and_from _ _ both.0 (grind (arith, ints, both.1))
      | inr now ↦
          let both = and_parts (u == unsigned_abs p.x && v == unsigned_abs p.y) (is_free area holes p) now in
          let at = and_parts (u == unsigned_abs p.x) (v == unsigned_abs p.y) both.0 in
          let n = natural both.1 in
          let same : point_at (pos u) (pos v) ≡ p = same_point (pos u) (pos v) p.x p.y (ap pos (eqb-true u (unsigned_abs p.x) at.0) ∙ sym n.0) (ap pos (eqb-true v (unsigned_abs p.y) at.1) ∙ sym n.1) in
          let seen : local corner s u v ≡ point_at x (y_at l r x) = ap (λ (q : Point). turned s (seen_from corner q)) (same ∙ is) ∙ point_back l r corner s x in
          let on : is_on_wide l r (local corner s u v) ≡ true = ap (is_on_wide l r) seen ∙ and_from _ _ (within-from l.x r.x x from to) ((Decides-int_eq (y_at l r x) (y_at l r x)).1 refl) in
          and_from _ _ (and_from _ _ (ap (is_free area holes) same ∙ both.1) on) (ap (λ (t : Point). int_lt t.x (x +ℤ pos 1)) seen ∙ grind (arith, ints))
    ]

pub course-more : (width height : ℕ) (l r corner p : Point) (s : Bool) (area : Rect) (holes : List Hole) (x : ℤ) (old new : List ℕ) → IsOn width height area → l.x ≤ℤ x → x ≤ℤ r.x → p ≡ course_point l r s corner x
    → AreTilesOf width height (to_step l r s corner area holes x) old → ((c k : ℕ) → has_tile new c k ≡ (has_tile old c k || (is_tile_of p c k && is_free area holes p)))
    → AreTilesOf width height (to_step l r s corner area holes (x +ℤ pos 1)) new
course-more width height l r corner p s area holes x old new is_on from to is so_far step =
    let sides : is_free area holes p ≡ true → LiesBetween area p.x p.y = λ h. has-sides area p.x p.y (and_parts (has area p) _ h).0 in
    are-point width height (unsigned_abs p.x) (unsigned_abs p.y) (to_step l r s corner area holes x) (to_step l r s corner area holes (x +ℤ pos 1)) (is_free area holes p) old new
    (λ h. let b = sides h in (omega (arith, ints, is_on.left, is_on.right, b.left, b.right), omega (arith, ints, is_on.top, is_on.bottom, b.top, b.bottom))) so_far step
    (λ u v. same_test _ _ (step_on l r corner p s area holes x u v is)
    (step_back l r corner p s area holes x u v from to is (λ h. let b = sides h in (omega (arith, ints, is_on.left, b.left), omega (arith, ints, is_on.top, b.top)))))

-- ---- the first and the last step

course_from : (l r corner : Point) (s : Bool) (area : Rect) (holes : List Hole) (u v : ℕ) → on_course l r s corner area holes u v ≡ true
    → ((l.x ≤ℤ (local corner s u v).x) × ((local corner s u v).x ≤ℤ r.x)) × LiesBetween area (pos u) (pos v)
course_from l r corner s area holes u v h =
    let both = and_parts (is_free area holes (point_at (pos u) (pos v))) (is_on_wide l r (local corner s u v)) h in
    let on = on_wide-parts l r (local corner s u v) both.1 in
    ((on.from, on.to), in-area area holes (point_at (pos u) (pos v)) (is_on_wide l r (local corner s u v)) h)

reach_low : (corner : Point) (s : Bool) (area : Rect) (first : ℤ) (u v : ℕ) → first ≡ cond s (area.y0 -ℤ corner.y) (area.x0 -ℤ corner.x) → LiesBetween area (pos u) (pos v) → first ≤ℤ (local corner s u v).x
reach_low corner true area first u v e b = omega (arith, ints, e, b.top)
reach_low corner false area first u v e b = omega (arith, ints, e, b.left)

reach_high : (corner : Point) (s : Bool) (area : Rect) (last : ℤ) (u v : ℕ) → last ≡ cond s (area.y1 -ℤ corner.y) (area.x1 -ℤ corner.x) → LiesBetween area (pos u) (pos v) → (local corner s u v).x ≤ℤ last
reach_high corner true area last u v e b = omega (arith, ints, e, b.bottom)
reach_high corner false area last u v e b = omega (arith, ints, e, b.right)

off : (here test : Bool) → (here ≡ true → test ≡ false) → (here && test) ≡ false
off true test h = h refl
off false test h = refl

on : (here test : Bool) → (here ≡ true → test ≡ true) → (here && test) ≡ here
on true test h = h refl
on false test h = refl

pub course-start : (width height : ℕ) (l r corner : Point) (s : Bool) (area : Rect) (holes : List Hole) (first x : ℤ) (tiles : List ℕ) → first ≡ cond s (area.y0 -ℤ corner.y) (area.x0 -ℤ corner.x) → x ≤ℤ int_max l.x first → ((c k : ℕ) → has_tile tiles c k ≡ false)
    → AreTilesOf width height (to_step l r s corner area holes x) tiles
course-start width height l r corner s area holes first x tiles is from none =
    tiles-empty width height (to_step l r s corner area holes x) tiles (λ u v. off (on_course l r s corner area holes u v) (int_lt (local corner s u v).x x) (λ h.
    let c = course_from l r corner s area holes u v h in
    let low = reach_low corner s area first u v is c.1 in
    let start : x ≤ℤ (local corner s u v).x = omega (arith, ints, clamps, from, low, c.0.0) in
    grind (arith, ints, start))) none

pub course-end : (width height : ℕ) (l r corner : Point) (s : Bool) (area : Rect) (holes : List Hole) (last x : ℤ) (tiles : List ℕ) → last ≡ cond s (area.y1 -ℤ corner.y) (area.x1 -ℤ corner.x) → int_min r.x last <ℤ x → AreTilesOf width height (to_step l r s corner area holes x) tiles
    → AreTilesOf width height (on_course l r s corner area holes) tiles
course-end width height l r corner s area holes last x tiles is to so_far =
    tiles-same width height (to_step l r s corner area holes x) (on_course l r s corner area holes) tiles (λ u v. on (on_course l r s corner area holes u v) (int_lt (local corner s u v).x x) (λ h.
    let c = course_from l r corner s area holes u v h in
    let high = reach_high corner s area last u v is c.1 in
    let end : (local corner s u v).x <ℤ x = omega (arith, ints, clamps, to, high, c.0.1) in
    grind (arith, ints, end))) so_far

-- ---- one point

spot_on : (corner p q : Point) (area : Rect) (holes : List Hole) (u v : ℕ) → q ≡ point_on_screen corner p → (is_free area holes (point_at (pos u) (pos v)) && is_same (seen_from corner (point_at (pos u) (pos v))) p) ≡ true
    → (false || ((u == unsigned_abs q.x && v == unsigned_abs q.y) && is_free area holes q)) ≡ true
spot_on corner p q area holes u v is h =
    let r = point_at (pos u) (pos v) in
    let both = and_parts (is_free area holes r) (is_same (seen_from corner r) p) h in
    let at = is_same-both (seen_from corner r) p both.1 in
    let same : r ≡ q = sym (placed_again corner r) ∙ ap (point_on_screen corner) (same_point (seen_from corner r).x (seen_from corner r).y p.x p.y at.0 at.1) ∙ sym is in
    and_from _ _ (and_from _ _ (eq-eqb u (unsigned_abs q.x) (ap (λ (t : Point). unsigned_abs t.x) same)) (eq-eqb v (unsigned_abs q.y) (ap (λ (t : Point). unsigned_abs t.y) same))) (ap (is_free area holes) (sym same) ∙ both.0)

spot_back : (corner p q : Point) (area : Rect) (holes : List Hole) (u v : ℕ) → q ≡ point_on_screen corner p → (is_free area holes q ≡ true → (q.x ≡ pos (unsigned_abs q.x)) × (q.y ≡ pos (unsigned_abs q.y)))
    → (false || ((u == unsigned_abs q.x && v == unsigned_abs q.y) && is_free area holes q)) ≡ true → (is_free area holes (point_at (pos u) (pos v)) && is_same (seen_from corner (point_at (pos u) (pos v))) p) ≡ true
spot_back corner p q area holes u v is natural h =
    let both = and_parts (u == unsigned_abs q.x && v == unsigned_abs q.y) (is_free area holes q) h in
    let at = and_parts (u == unsigned_abs q.x) (v == unsigned_abs q.y) both.0 in
    let n = natural both.1 in
    let same : point_at (pos u) (pos v) ≡ q = same_point (pos u) (pos v) q.x q.y (ap pos (eqb-true u (unsigned_abs q.x) at.0) ∙ sym n.0) (ap pos (eqb-true v (unsigned_abs q.y) at.1) ∙ sym n.1) in
    let seen : seen_from corner (point_at (pos u) (pos v)) ≡ p = ap (seen_from corner) (same ∙ is) ∙ seen_again corner p in
    and_from _ _ (ap (is_free area holes) same ∙ both.1) (ap (λ (t : Point). is_same t p) seen ∙ is_same-from p p refl refl)

pub one_point : (width height : ℕ) (corner p q : Point) (area : Rect) (holes : List Hole) (old new : List ℕ) → IsOn width height area → q ≡ point_on_screen corner p → ((c k : ℕ) → has_tile old c k ≡ false)
    → ((c k : ℕ) → has_tile new c k ≡ (has_tile old c k || (is_tile_of q c k && is_free area holes q)))
    → AreTilesOf width height (λ u v. is_free area holes (point_at (pos u) (pos v)) && is_same (seen_from corner (point_at (pos u) (pos v))) p) new
one_point width height corner p q area holes old new is_on is none step =
    let sides : is_free area holes q ≡ true → LiesBetween area q.x q.y = λ h. has-sides area q.x q.y (and_parts (has area q) _ h).0 in
    are-point width height (unsigned_abs q.x) (unsigned_abs q.y) (λ u v. false) (λ u v. is_free area holes (point_at (pos u) (pos v)) && is_same (seen_from corner (point_at (pos u) (pos v))) p) (is_free area holes q) old new
    (λ h. let b = sides h in (omega (arith, ints, is_on.left, is_on.right, b.left, b.right), omega (arith, ints, is_on.top, is_on.bottom, b.top, b.bottom)))
    (tiles-empty width height (λ u v. false) old (λ u v. refl) none) step
    (λ u v. same_test _ _ (spot_on corner p q area holes u v is)
    (spot_back corner p q area holes u v is (λ h. let b = sides h in (omega (arith, ints, is_on.left, b.left), omega (arith, ints, is_on.top, b.top)))))

-- ---- the kinds of lines

pub on-same : (a b t : Point) → is_same a b ≡ true → is_on_line a b t ≡ is_same t a
unfolding is_on_line
on-same a b t e = rw e refl

pub on-steep : (a b t : Point) → is_same a b ≡ false → unsigned_abs (b.x -ℤ a.x) < unsigned_abs (b.y -ℤ a.y) → is_on_line a b t ≡ is_on_wide (left_of (flipped a) (flipped b)) (right_of (flipped a) (flipped b)) (turned true t)
unfolding is_on_line
on-steep a b t e steep = let narrow : is_wide a b ≡ false = grind (arith, nat_tests, steep) in rw (e, narrow) refl

pub on-wide : (a b t : Point) → is_same a b ≡ false → unsigned_abs (b.y -ℤ a.y) ≤ unsigned_abs (b.x -ℤ a.x) → is_on_line a b t ≡ is_on_wide (left_of a b) (right_of a b) (turned false t)
unfolding is_on_line
on-wide a b t e low = let wide : is_wide a b ≡ true = grind (arith, nat_tests, low) in rw (e, wide) refl

pub wide-apart : (a b : Point) → is_same a b ≡ false → unsigned_abs (b.y -ℤ a.y) ≤ unsigned_abs (b.x -ℤ a.x) → a.x ≡ b.x → ⊥
wide-apart a b e low same = false≢true (sym e ∙ is_same-from a b same (omega (arith, ints, low, same)))

pub same-test_tiles : (width height : ℕ) (area : Rect) (holes : List Hole) (corner : Point) (f g : Point → Bool) (tiles : List ℕ) → ((t : Point) → f t ≡ g t)
    → AreTilesOf width height (λ u v. is_free area holes (point_at (pos u) (pos v)) && f (seen_from corner (point_at (pos u) (pos v)))) tiles
    → AreTilesOf width height (λ u v. is_free area holes (point_at (pos u) (pos v)) && g (seen_from corner (point_at (pos u) (pos v)))) tiles
same-test_tiles width height area holes corner f g tiles same are =
    tiles-same width height (λ u v. is_free area holes (point_at (pos u) (pos v)) && f (seen_from corner (point_at (pos u) (pos v)))) (λ u v. is_free area holes (point_at (pos u) (pos v)) && g (seen_from corner (point_at (pos u) (pos v)))) tiles
    (λ u v. ap (λ (b : Bool). is_free area holes (point_at (pos u) (pos v)) && b) (same (seen_from corner (point_at (pos u) (pos v))))) are
