-- Which windows count at a point of a job's area.
use Rattle.std.proofs.Common.{◌≡◌, ℕ, ◌+◌, ◌<◌, Bool, true, false, cond, ◌&&◌, ◌||◌, ℤ, Option, Some, None, List, [], ◌∷◌, ◌++◌, length, get_or, take, drop, refl, sym, ap, ◌∙◌, inl, inr, arith}
use Rattle.std.specs.Prelude.{unwrap_or, int_le, is_some, not}
use Rattle.std.proofs.lemmas.Bool.{cases_Bool, and_parts, and_from}
use Rattle.std.proofs.lemmas.Int.{ints}
use Rattle.std.proofs.lemmas.List.{drop_more, take-append-drop}
use Rattle.std.proofs.lemmas.List.Folds.{list_any-append}
use Rattle.std.proofs.lemmas.List.Elements.{filter-append}
use Rattle.gfx_base.specs.declared.point.Point.{Point}
use Rattle.gfx_base.specs.declared.rect.Rect.{Rect}
use Rattle.gfx_base.specs.Range.{is_within}
use Rattle.gfx_base.specs.Rects.{has}
use Rattle.paint_ops.specs.Kinds.{Assets}
use Rattle.paint_ops.specs.Operations.{or_behind, colour_of_operations, seen_from}
use Rattle.scene.specs.declared.win.Win.{Win}
use Rattle.scene.specs.Clips.{corner_in, clip_in}
use Rattle.scene.specs.Painting.{Looks, windows_at, hides_behind, painted_over, painted}
use Rattle.scene.specs.Looks.{class_of, inputs_of, is_opaque, paint, looks_of}
use Rattle.scene.proofs.CallerLemmas.{painted_over-append}
use Rattle.scene.proofs.CallerLemmas.{windows-here, windows-away}
use Rattle.exec_paint.specs.declared.plan.Hole.{Hole}
use Rattle.scene.specs.Places.{no_window}
use Rattle.exec_paint.specs.Plans.{is_hidden}

-- ---- one window

wider : (low high a b z : ℤ) → int_le low a ≡ true → int_le b high ≡ true → is_within a b z ≡ true → is_within low high z ≡ true
unfolding is_within
wider low high a b z h k e = grind (arith, ints)

pub covers-points : (clip area : Rect) (p : Point) → (int_le clip.x0 area.x0 && int_le area.x1 clip.x1 && (int_le clip.y0 area.y0 && int_le area.y1 clip.y1)) ≡ true → has area p ≡ true → has clip p ≡ true
unfolding has
covers-points clip area p e h =
    let both = and_parts _ _ e in
    let x = and_parts _ _ both.0 in
    let y = and_parts _ _ both.1 in
    let here = and_parts _ _ h in
    and_from _ _ (wider clip.x0 clip.x1 area.x0 area.x1 p.x x.0 x.1 here.0) (wider clip.y0 clip.y1 area.y0 area.y1 p.y y.0 y.1 here.1)

over_back : (t : Bool) (b drawn : Option ℕ) (x y : ℕ) → (not t && is_some b) ≡ true → unwrap_or (or_behind (cond (not t && is_some b) b None) drawn) x ≡ unwrap_or (or_behind (cond (not t && is_some b) b None) drawn) y
over_back true b drawn x y e = absurd cc
over_back false None drawn x y e = absurd cc
over_back false (Some c) None x y e = refl
over_back false (Some c) (Some d) x y e = refl

-- what an opaque window leaves doesn't depend on what is behind it
opaque-paints : (assets : Assets) (ws : List Win) (w : Win) (p : Point) (a b : ℕ) → is_opaque assets w ≡ true → paint assets ws w p a ≡ paint assets ws w p b
opaque-paints assets ws w p a b e =
    over_back w.trans (class_of assets w).back (colour_of_operations assets (inputs_of w) (class_of assets w).ops (seen_from (corner_in ws w) p)) a b e

pub at-next : (looks : Looks) (w : Win) (rest : List Win) (p : Point) → has (looks.clip w) p ≡ true → windows_at looks (w ∷ rest) p ≡ w ∷ windows_at looks rest p
at-next looks w rest p here = rw here refl

pub past-next : (looks : Looks) (w : Win) (rest : List Win) (p : Point) → has (looks.clip w) p ≡ false → windows_at looks (w ∷ rest) p ≡ windows_at looks rest p
past-next looks w rest p away = rw away refl

-- ---- from which window on

-- from an opaque window that has the point on, all windows leave what all windows leave
pub base-colours : (assets : Assets) (screen : Rect) (ws : List Win) (i : ℕ) (p : Point) (old : ℕ) → i < length ws → is_opaque assets (get_or ws i no_window) ≡ true → has (clip_in screen ws (get_or ws i no_window)) p ≡ true
    → painted_over (looks_of assets screen ws) p old (windows_at (looks_of assets screen ws) (drop i ws) p) ≡ painted (looks_of assets screen ws) ws p
base-colours assets screen ws i p old lt opaque here =
    let looks = looks_of assets screen ws in
    let w = get_or ws i no_window in
    let from : (behind : ℕ) → painted_over looks p behind (windows_at looks (drop i ws) p) ≡ painted_over looks p (looks.paint w p behind) (windows_at looks (drop (i + 1) ws) p) =
    λ behind. ap (λ (vs : List Win). painted_over looks p behind (windows_at looks vs p)) (drop_more ws i no_window lt) ∙ ap (painted_over looks p behind) (at-next looks w (drop (i + 1) ws) p here) in
    let before = painted_over looks p 0 (windows_at looks (take i ws) p) in
    from old
    ∙ ap (λ (c : ℕ). painted_over looks p c (windows_at looks (drop (i + 1) ws) p)) (opaque-paints assets ws w p old before opaque)
    ∙ sym (from before)
    ∙ sym (painted_over-append looks p 0 (windows_at looks (take i ws) p) (windows_at looks (drop i ws) p))
    ∙ ap (painted_over looks p 0) (sym (filter-append (λ w. has (looks.clip w) p) (take i ws) (drop i ws)))
    ∙ ap (λ (vs : List Win). painted_over looks p 0 (windows_at looks vs p)) (take-append-drop i ws)

-- ---- which windows

pub open-taken : (looks : Looks) (ws : List Win) (p : Point) (c old i : ℕ) (taken : List Win) → i < length ws
    → painted_over looks p (painted_over looks p old (windows_at looks taken p)) (windows_at looks (drop i ws) p) ≡ c
    → painted_over looks p (painted_over looks p old (windows_at looks (taken ++ get_or ws i no_window ∷ []) p)) (windows_at looks (drop (i + 1) ws) p) ≡ c
open-taken looks ws p c old i taken lt e =
    let w = get_or ws i no_window in
    let rest = drop (i + 1) ws in
    elim (cases_Bool (has (looks.clip w) p)) [
      | inl here ↦
          ap (λ (b : ℕ). painted_over looks p b (windows_at looks rest p)) (windows-here looks taken w p old here)
          ∙ sym (ap (painted_over looks p (painted_over looks p old (windows_at looks taken p))) (at-next looks w rest p here))
          ∙ sym (ap (λ (vs : List Win). painted_over looks p (painted_over looks p old (windows_at looks taken p)) (windows_at looks vs p)) (drop_more ws i no_window lt)) ∙ e
      | inr away ↦
          ap (λ (b : ℕ). painted_over looks p b (windows_at looks rest p)) (windows-away looks taken w p old away)
          ∙ sym (ap (painted_over looks p (painted_over looks p old (windows_at looks taken p))) (past-next looks w rest p away))
          ∙ sym (ap (λ (vs : List Win). painted_over looks p (painted_over looks p old (windows_at looks taken p)) (windows_at looks vs p)) (drop_more ws i no_window lt)) ∙ e
    ]

pub open-skipped : (looks : Looks) (ws : List Win) (p : Point) (c behind i : ℕ) → i < length ws → has (looks.clip (get_or ws i no_window)) p ≡ false
    → painted_over looks p behind (windows_at looks (drop i ws) p) ≡ c → painted_over looks p behind (windows_at looks (drop (i + 1) ws) p) ≡ c
open-skipped looks ws p c behind i lt away e =
    sym (ap (painted_over looks p behind) (past-next looks (get_or ws i no_window) (drop (i + 1) ws) p away))
    ∙ sym (ap (λ (vs : List Win). painted_over looks p behind (windows_at looks vs p)) (drop_more ws i no_window lt)) ∙ e

-- ---- what hides

hides-next : (looks : Looks) (w : Win) (rest : List Win) (p : Point) → hides_behind looks (windows_at looks (w ∷ rest) p) ≡ ((has (looks.clip w) p && looks.is_opaque w) || hides_behind looks (windows_at looks rest p))
hides-next looks w rest p =
    elim (cases_Bool (has (looks.clip w) p)) [
      | inl here ↦ rw here refl
      | inr away ↦ rw away refl
    ]

pub hides-drop : (looks : Looks) (ws : List Win) (p : Point) (i : ℕ) → i < length ws
    → hides_behind looks (windows_at looks (drop i ws) p) ≡ ((has (looks.clip (get_or ws i no_window)) p && looks.is_opaque (get_or ws i no_window)) || hides_behind looks (windows_at looks (drop (i + 1) ws) p))
hides-drop looks ws p i lt = ap (λ (vs : List Win). hides_behind looks (windows_at looks vs p)) (drop_more ws i no_window lt) ∙ hides-next looks (get_or ws i no_window) (drop (i + 1) ws) p

pub or_false : (b : Bool) → (b || false) ≡ b
or_false true = refl
or_false false = refl

pub hidden-push : (holes : List Hole) (clip : Rect) (p : Point) → is_hidden (holes ++ record { clip = clip } ∷ []) p ≡ (is_hidden holes p || has clip p)
hidden-push holes clip p = list_any-append (λ (hole : Hole). has hole.clip p) holes (record { clip = clip } ∷ []) ∙ ap (λ (b : Bool). is_hidden holes p || b) (or_false (has clip p))

hole_now : (hidden here opaque rest all : Bool) → opaque ≡ true → (hidden || ((here && opaque) || rest)) ≡ all → ((hidden || here) || rest) ≡ all
hole_now true here opaque rest all o e = e
hole_now false true true rest all o e = e
hole_now false true false rest all o e = absurd cc
hole_now false false opaque rest all o e = e

pub hides-hole : (looks : Looks) (ws : List Win) (holes : List Hole) (clip : Rect) (p : Point) (i : ℕ) (all : Bool) → i < length ws → clip ≡ looks.clip (get_or ws i no_window) → looks.is_opaque (get_or ws i no_window) ≡ true
    → (is_hidden holes p || hides_behind looks (windows_at looks (drop i ws) p)) ≡ all → (is_hidden (holes ++ record { clip = clip } ∷ []) p || hides_behind looks (windows_at looks (drop (i + 1) ws) p)) ≡ all
hides-hole looks ws holes clip p i all lt same opaque e =
    let w = get_or ws i no_window in
    let rest = hides_behind looks (windows_at looks (drop (i + 1) ws) p) in
    ap (λ (b : Bool). b || rest) (hidden-push holes clip p ∙ ap (λ (r : Rect). is_hidden holes p || has r p) same)
    ∙ hole_now (is_hidden holes p) (has (looks.clip w) p) (looks.is_opaque w) rest all opaque (sym (ap (λ (b : Bool). is_hidden holes p || b) (hides-drop looks ws p i lt)) ∙ e)

still : (hidden test rest all : Bool) → test ≡ false → (hidden || (test || rest)) ≡ all → (hidden || rest) ≡ all
still hidden test rest all t e = rw t at e

off_right : (a b : Bool) → b ≡ false → (a && b) ≡ false
off_right true b e = e
off_right false b e = refl

pub hides-layer : (looks : Looks) (ws : List Win) (hidden : Bool) (p : Point) (i : ℕ) (all : Bool) → i < length ws → looks.is_opaque (get_or ws i no_window) ≡ false
    → (hidden || hides_behind looks (windows_at looks (drop i ws) p)) ≡ all → (hidden || hides_behind looks (windows_at looks (drop (i + 1) ws) p)) ≡ all
hides-layer looks ws hidden p i all lt clear e =
    let w = get_or ws i no_window in
    still hidden (has (looks.clip w) p && looks.is_opaque w) (hides_behind looks (windows_at looks (drop (i + 1) ws) p)) all (off_right (has (looks.clip w) p) (looks.is_opaque w) clear) (sym (ap (λ (b : Bool). hidden || b) (hides-drop looks ws p i lt)) ∙ e)

pub hides-skipped : (looks : Looks) (ws : List Win) (hidden : Bool) (p : Point) (i : ℕ) (all : Bool) → i < length ws → has (looks.clip (get_or ws i no_window)) p ≡ false
    → (hidden || hides_behind looks (windows_at looks (drop i ws) p)) ≡ all → (hidden || hides_behind looks (windows_at looks (drop (i + 1) ws) p)) ≡ all
hides-skipped looks ws hidden p i all lt away e =
    let w = get_or ws i no_window in
    still hidden (has (looks.clip w) p && looks.is_opaque w) (hides_behind looks (windows_at looks (drop (i + 1) ws) p)) all (rw away refl) (sym (ap (λ (b : Bool). hidden || b) (hides-drop looks ws p i lt)) ∙ e)

or_true : (b : Bool) → (b || true) ≡ true
or_true true = refl
or_true false = refl

-- where one that hides what is behind has the point, all hide it
pub hides-here : (looks : Looks) (ws : List Win) (hidden : Bool) (p : Point) (i : ℕ) (all : Bool) → i < length ws → has (looks.clip (get_or ws i no_window)) p ≡ true → looks.is_opaque (get_or ws i no_window) ≡ true
    → (hidden || hides_behind looks (windows_at looks (drop i ws) p)) ≡ all → all ≡ true
hides-here looks ws hidden p i all lt here opaque e =
    sym e ∙ ap (λ (b : Bool). hidden || b) (hides-drop looks ws p i lt ∙ rw (here, opaque) refl) ∙ or_true hidden

pub neither : (a b : Bool) → (a || b) ≡ false → (a ≡ false) × (b ≡ false)
neither false b e = (refl, e)
neither true b e = absurd cc
