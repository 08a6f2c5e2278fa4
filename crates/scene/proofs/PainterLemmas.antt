-- What windows paint on one point, operation after operation and window after window.
use Rattle.std.proofs.Common.{◌≡◌, ℕ, suc, zero, ◌+◌, ◌<◌, ◌≤◌, Bool, true, false, cond, ◌&&◌, eqb, Option, Some, None, List, [], ◌∷◌, ◌++◌, length, get_or, set, take, ltb, pos, ℤ, ◌+ℤ◌, ◌-ℤ◌, refl, sym, ap, ◌∙◌, inl, inr, arith}
use Rattle.std.specs.Prelude.{unwrap_or, option_map, slice_get, is_some, not}
use Rattle.std.specs.List.{AllByRecursion}
use Rattle.std.proofs.lemmas.Bool.{cases_Bool, and_parts, ltb-true, ltb-false}
use Rattle.std.proofs.lemmas.Int.{ints}
use Rattle.std.proofs.lemmas.List.{take_more, take_all, length-set, get_or-set_same, get_or-set_other}
use Rattle.std.proofs.lemmas.Option.{slice_get-get_or, get_or_from_slice_get}
use Rattle.gfx_base.specs.declared.point.Point.{Point}
use Rattle.gfx_base.specs.declared.rect.Rect.{Rect}
use Rattle.gfx_base.specs.Range.{is_within}
use Rattle.gfx_base.specs.Rects.{has, meet, point_at}
use Rattle.gfx_base.proofs.CallerLemmas.{has-meet}
use Rattle.paint_ops.specs.declared.op.Op.{Op}
use Rattle.paint_ops.specs.Kinds.{Class, Assets}
use Rattle.scene.specs.Looks.{class_of, inputs_of, back_of, colour_in_window, looks_of}
use Rattle.paint_ops.specs.Operations.{Inputs, seen_from, or_behind, colour_of_operation, colour_of_operations}
use Rattle.paint_ops.specs.Rows.{IsOrigin}
use Rattle.frame.specs.Pictures.{Picture, HasShape}
use Rattle.scene.proofs.DotLemmas.{dotted, dotted-dotted, dotted-same, dotted-kept}
use Rattle.scene.specs.declared.win.Win.{Win}
use Rattle.scene.specs.Places.{Place, place_of, place_at, parent_in}
use Rattle.scene.specs.Clips.{corner_in, clip_in, clip_of, frame_of, clip_from, outer_clip, AreClips}
use Rattle.scene.proofs.PlaceLemmas.{shown_part}
use Rattle.scene.specs.Painting.{Looks, windows_at, painted_over}

-- ---- operations

or_nothing : (o : Option ℕ) → or_behind None o ≡ o
or_nothing None = refl
or_nothing (Some c) = refl

or_of_three : (a b c : Option ℕ) → or_behind a (or_behind b c) ≡ or_behind (or_behind a b) c
or_of_three a b None = refl
or_of_three a b (Some c) = refl

pub colour_of_operations-push : (assets : Assets) (inputs : Inputs) (ops : List Op) (op : Op) (p : Point) → colour_of_operations assets inputs (ops ++ op ∷ []) p ≡ or_behind (colour_of_operations assets inputs ops p) (colour_of_operation assets inputs op p)
colour_of_operations-push assets inputs [] op p = sym (or_nothing (colour_of_operation assets inputs op p))
colour_of_operations-push assets inputs (first ∷ ops) op p =
    ap (or_behind (colour_of_operation assets inputs first p)) (colour_of_operations-push assets inputs ops op p)
    ∙ or_of_three (colour_of_operation assets inputs first p) (colour_of_operations assets inputs ops p) (colour_of_operation assets inputs op p)

pub over : (a b : Option ℕ) (old : ℕ) → unwrap_or (or_behind a b) old ≡ unwrap_or b (unwrap_or a old)
over a None old = refl
over a (Some c) old = refl

-- one operation more
pub operations-more : (assets : Assets) (inputs : Inputs) (ops : List Op) (k : ℕ) (d : Op) (p : Point) (old : ℕ) → k < length ops
    → unwrap_or (colour_of_operation assets inputs (get_or ops k d) p) (unwrap_or (colour_of_operations assets inputs (take k ops) p) old) ≡ unwrap_or (colour_of_operations assets inputs (take (k + 1) ops) p) old
operations-more assets inputs ops k d p old lt =
    sym (ap (λ (os : List Op). unwrap_or (colour_of_operations assets inputs os p) old) (take_more ops k d lt)
    ∙ ap (λ (o : Option ℕ). unwrap_or o old) (colour_of_operations-push assets inputs (take k ops) (get_or ops k d) p)
    ∙ over (colour_of_operations assets inputs (take k ops) p) (colour_of_operation assets inputs (get_or ops k d) p) old)

-- ---- windows

here_only : (looks : Looks) (w : Win) (p : Point) → has (looks.clip w) p ≡ true → windows_at looks (w ∷ []) p ≡ w ∷ []
here_only looks w p here = rw here refl

pub windows-here : (looks : Looks) (ws : List Win) (w : Win) (p : Point) (behind : ℕ) → has (looks.clip w) p ≡ true → painted_over looks p behind (windows_at looks (ws ++ w ∷ []) p) ≡ looks.paint w p (painted_over looks p behind (windows_at looks ws p))
windows-here looks [] w p behind here = rw here refl
windows-here looks (v ∷ ws) w p behind here =
    elim (cases_Bool (has (looks.clip v) p)) [
      | inl e ↦ rw e (windows-here looks ws w p (looks.paint v p behind) here)
      | inr e ↦ rw e (windows-here looks ws w p behind here)
    ]

pub windows-away : (looks : Looks) (ws : List Win) (w : Win) (p : Point) (behind : ℕ) → has (looks.clip w) p ≡ false → painted_over looks p behind (windows_at looks (ws ++ w ∷ []) p) ≡ painted_over looks p behind (windows_at looks ws p)
windows-away looks [] w p behind away = rw away refl
windows-away looks (v ∷ ws) w p behind away =
    elim (cases_Bool (has (looks.clip v) p)) [
      | inl e ↦ rw e (windows-away looks ws w p (looks.paint v p behind) away)
      | inr e ↦ rw e (windows-away looks ws w p behind away)
    ]

-- ---- where a window that has a point of the screen lies

near_axis : (corner : ℤ) (side z : ℕ) → side ≤ 4096 → z < 1024 → is_within corner ((corner +ℤ pos side) -ℤ pos 1) (pos z) ≡ true → IsOrigin corner
unfolding is_within
near_axis corner side z narrow inside e = (grind (arith, ints), grind (arith, ints))

in_frame : (q : Place) (corner : Point) (outer : Rect) (p : Point) → has (clip_from q corner outer) p ≡ true → has (frame_of corner q) p ≡ true
in_frame q corner outer p here = (and_parts _ _ (sym (has-meet (frame_of corner q) outer p) ∙ shown_part q.shown (meet (frame_of corner q) outer) p here)).0

both_axes : (r : Rect) (p : Point) → has r p ≡ true → (is_within r.x0 r.x1 p.x ≡ true) × (is_within r.y0 r.y1 p.y ≡ true)
unfolding has
both_axes r p here = and_parts _ _ here

-- the clip in which a window lies
abbrev outer_of : Rect → List Win → Win → Rect
outer_of screen ws w = outer_clip screen (eqb w.parent 0) (option_map (clip_of 7 screen (place_at ws)) (parent_in (place_at ws) (place_of w)))

-- a window that has a point of the screen lies near it
pub corner_near : (screen : Rect) (ws : List Win) (w : Win) (x y : ℕ) → w.w ≤ 4096 → w.h ≤ 4096 → x < 1024 → y < 1024 → has (clip_in screen ws w) (point_at (pos x) (pos y)) ≡ true → IsOrigin (corner_in ws w).x × IsOrigin (corner_in ws w).y
corner_near screen ws w x y narrow low x_in y_in here =
    let axes = both_axes (frame_of (corner_in ws w) (place_of w)) (point_at (pos x) (pos y)) (in_frame (place_of w) (corner_in ws w) (outer_of screen ws w) (point_at (pos x) (pos y)) here) in
    (near_axis (corner_in ws w).x w.w x narrow x_in axes.0, near_axis (corner_in ws w).y w.h y low y_in axes.1)

-- ---- lists that are filled from their front

slice_get-set_same : {X : Type 0} (xs : List X) (i : ℕ) (x : X) → i < length xs → slice_get (set xs i x) i ≡ Some x
slice_get-set_same xs i x lt =
    let long = length-set xs i x in
    slice_get-get_or (set xs i x) i x (omega (arith, long)) ∙ ap (λ z. Some z) (get_or-set_same xs i x x lt)

slice_get-set_other : {X : Type 0} (xs : List X) (i j : ℕ) (x y : X) → j < i → i < length xs → slice_get xs j ≡ Some y → slice_get (set xs i x) j ≡ Some y
slice_get-set_other xs i j x y less lt e =
    let long = length-set xs i x in
    slice_get-get_or (set xs i x) j y (omega (arith, long)) ∙ ap (λ z. Some z) (get_or-set_other xs i j x y (λ same. absurd (omega arith)) ∙ get_or_from_slice_get xs j y y e)

same_at : {X Y : Type 0} (xs : List X) (ys : List Y) (f : X → Y) (i j : ℕ) (y : Y) → j ≡ i → ((x : X) → slice_get xs i ≡ Some x → slice_get ys i ≡ Some (f x)) → (x : X) → slice_get xs j ≡ Some x → slice_get ys j ≡ Some (f x)
same_at xs ys f i j y e here x at = ap (slice_get ys) e ∙ here x (sym (ap (slice_get xs) e) ∙ at)

pub one_more_place : {X Y : Type 0} (f : X → Y) (xs : List X) (ys : List Y) (i : ℕ) (y : Y) → i < length ys → ((j : ℕ) (x : X) → j < i → slice_get xs j ≡ Some x → slice_get ys j ≡ Some (f x)) → ((x : X) → slice_get xs i ≡ Some x → y ≡ f x)
    → (j : ℕ) (x : X) → j < i + 1 → slice_get xs j ≡ Some x → slice_get (set ys i y) j ≡ Some (f x)
one_more_place f xs ys i y lt before here j x less at =
    elim (cases_Bool (ltb j i)) [
      | inl e ↦ let lower = ltb-true j i e in slice_get-set_other ys i j y (f x) lower lt (before j x lower at)
      | inr e ↦
          let last : j ≡ i = let high = ltb-false j i e in omega arith in
          same_at xs (set ys i y) f i j y last (λ z found. slice_get-set_same ys i y lt ∙ ap (λ v. Some v) (here z found)) x at
    ]

pub all-at : {X : Type 0} (P : X → Type 0) (xs : List X) (i : ℕ) (d : X) → AllByRecursion P xs → i < length xs → P (get_or xs i d)
all-at P [] i d all lt = absurd (omega arith)
all-at P (x ∷ xs) zero d all lt = all.0
all-at P (x ∷ xs) (suc i) d all lt = all-at P xs i d all.1 (omega arith)

pub all-push : {X : Type 0} (P : X → Type 0) (xs : List X) (x : X) → AllByRecursion P xs → P x → AllByRecursion P (xs ++ x ∷ [])
all-push P [] x all here = (here, tt)
all-push P (y ∷ ys) x all here = (all.0, all-push P ys x all.1 here)

-- ---- operations on a point of a picture

-- the colour of a point of the screen once operations of a window whose corner is given were drawn over an old one
abbrev pub drawn_over : Assets → Inputs → Point → List Op → ℕ → ℕ → ℕ → ℕ
drawn_over assets inputs corner ops x y old = unwrap_or (colour_of_operations assets inputs ops (seen_from corner (point_at (pos x) (pos y)))) old

abbrev pub drawn_by : Assets → Inputs → Point → Op → ℕ → ℕ → ℕ → ℕ
drawn_by assets inputs corner op x y old = unwrap_or (colour_of_operation assets inputs op (seen_from corner (point_at (pos x) (pos y)))) old

pub operations-start : (p : Picture) (assets : Assets) (inputs : Inputs) (corner : Point) (ops : List Op) (x y : ℕ) → HasShape p → p ≡ dotted p x y (drawn_over assets inputs corner (take 0 ops))
operations-start p assets inputs corner ops x y shape = dotted-kept p x y shape

pub operations-step : (p q new : Picture) (assets : Assets) (inputs : Inputs) (corner : Point) (ops : List Op) (op : Op) (k x y : ℕ) → HasShape p → k < length ops → op ≡ get_or ops k op → q ≡ dotted p x y (drawn_over assets inputs corner (take k ops))
    → new ≡ dotted q x y (drawn_by assets inputs corner op) → new ≡ dotted p x y (drawn_over assets inputs corner (take (k + 1) ops))
operations-step p q new assets inputs corner ops op k x y shape lt is so_far step =
    step ∙ ap (λ (r : Picture). dotted r x y (drawn_by assets inputs corner op)) so_far
    ∙ dotted-dotted p x y (drawn_over assets inputs corner (take k ops)) (drawn_by assets inputs corner op) shape
    ∙ dotted-same p x y (λ u v old. drawn_by assets inputs corner op u v (drawn_over assets inputs corner (take k ops) u v old)) (drawn_over assets inputs corner (take (k + 1) ops)) shape (λ old.
    ap (λ (o : Op). drawn_by assets inputs corner o x y (drawn_over assets inputs corner (take k ops) x y old)) is
    ∙ operations-more assets inputs ops k op (seen_from corner (point_at (pos x) (pos y))) old lt)

pub operations-end : (p q : Picture) (assets : Assets) (inputs : Inputs) (corner : Point) (ops : List Op) (k x y : ℕ) → length ops ≤ k → q ≡ dotted p x y (drawn_over assets inputs corner (take k ops)) → q ≡ dotted p x y (drawn_over assets inputs corner ops)
operations-end p q assets inputs corner ops k x y le so_far = so_far ∙ ap (λ (os : List Op). dotted p x y (drawn_over assets inputs corner os)) (take_all k ops le)

-- ---- a window on a point of a picture

pub dotted-none : (p : Picture) (x y : ℕ) (o : Option ℕ) → HasShape p → o ≡ None → p ≡ dotted p x y (λ u v old. unwrap_or o old)
dotted-none p x y o shape e = rw e (dotted-kept p x y shape)

same_back : (t : Bool) (b : Option ℕ) (old : ℕ) → unwrap_or (cond (not t && is_some b) b None) old ≡ unwrap_or (cond t None b) old
same_back true b old = refl
same_back false None old = refl
same_back false (Some c) old = refl

-- the colour of a window's point, from its back colour and its operations
over_back : (assets : Assets) (w : Win) (drawn : Option ℕ) (old : ℕ) → unwrap_or drawn (unwrap_or (cond w.trans None (class_of assets w).back) old) ≡ unwrap_or (or_behind (back_of assets w) drawn) old
over_back assets w drawn old = ap (unwrap_or drawn) (sym (same_back w.trans (class_of assets w).back old)) ∙ sym (over (back_of assets w) drawn old)

abbrev pub painted_by : Assets → Win → Point → ℕ → ℕ → ℕ → ℕ
painted_by assets w corner x y old = unwrap_or (colour_in_window assets w (seen_from corner (point_at (pos x) (pos y)))) old

pub window_painted : (p q new : Picture) (assets : Assets) (w : Win) (class : Class) (corner : Point) (x y : ℕ) → HasShape p → class ≡ class_of assets w → q ≡ dotted p x y (λ u v old. unwrap_or (cond w.trans None class.back) old)
    → new ≡ dotted q x y (drawn_over assets (inputs_of w) corner class.ops) → new ≡ dotted p x y (painted_by assets w corner)
window_painted p q new assets w class corner x y shape is back drawn =
    drawn ∙ ap (λ (r : Picture). dotted r x y (drawn_over assets (inputs_of w) corner class.ops)) back
    ∙ dotted-dotted p x y (λ u v old. unwrap_or (cond w.trans None class.back) old) (drawn_over assets (inputs_of w) corner class.ops) shape
    ∙ ap (λ (k : Class). dotted p x y (λ u v old. drawn_over assets (inputs_of w) corner k.ops u v (unwrap_or (cond w.trans None k.back) old))) is
    ∙ dotted-same p x y (λ u v old. drawn_over assets (inputs_of w) corner (class_of assets w).ops u v (unwrap_or (cond w.trans None (class_of assets w).back) old)) (painted_by assets w corner) shape
    (λ old. over_back assets w (colour_of_operations assets (inputs_of w) (class_of assets w).ops (seen_from corner (point_at (pos x) (pos y)))) old)

-- ---- all windows on a point of a picture

-- the colour that these windows leave at a point of the screen, over black
abbrev pub painted_first : Looks → List Win → ℕ → ℕ → ℕ → ℕ
painted_first looks ws x y old = let p = point_at (pos x) (pos y) in painted_over looks p 0 (windows_at looks ws p)

-- the clip kept for one of the windows
pub clip_at : (screen : Rect) (ws : List Win) (clips : List Rect) (k : ℕ) (d : Win) (r : Rect) → k < length ws → AreClips screen ws clips → get_or clips k r ≡ clip_in screen ws (get_or ws k d)
clip_at screen ws clips k d r lt are = get_or_from_slice_get clips k (clip_in screen ws (get_or ws k d)) r (are k (get_or ws k d) (slice_get-get_or ws k d lt))

pub windows-step : (p q new : Picture) (assets : Assets) (screen : Rect) (ws : List Win) (d : Win) (corner : Point) (k x y : ℕ) → HasShape p → k < length ws → has (clip_in screen ws (get_or ws k d)) (point_at (pos x) (pos y)) ≡ true
    → corner ≡ corner_in ws (get_or ws k d) → q ≡ dotted p x y (painted_first (looks_of assets screen ws) (take k ws)) → new ≡ dotted q x y (painted_by assets (get_or ws k d) corner) → new ≡ dotted p x y (painted_first (looks_of assets screen ws) (take (k + 1) ws))
windows-step p q new assets screen ws d corner k x y shape lt here at so_far step =
    let looks = looks_of assets screen ws in
    let w = get_or ws k d in
    step ∙ ap (λ (r : Picture). dotted r x y (painted_by assets w corner)) so_far
    ∙ dotted-dotted p x y (painted_first looks (take k ws)) (painted_by assets w corner) shape
    ∙ dotted-same p x y (λ u v old. painted_by assets w corner u v (painted_first looks (take k ws) u v old)) (painted_first looks (take (k + 1) ws)) shape (λ old.
    ap (λ (c : Point). painted_by assets w c x y (painted_first looks (take k ws) x y old)) at
    ∙ sym (ap (λ (vs : List Win). painted_first looks vs x y old) (take_more ws k d lt) ∙ windows-here looks (take k ws) w (point_at (pos x) (pos y)) 0 here))

pub windows-skip : (p q : Picture) (assets : Assets) (screen : Rect) (ws : List Win) (d : Win) (k x y : ℕ) → HasShape p → k < length ws → has (clip_in screen ws (get_or ws k d)) (point_at (pos x) (pos y)) ≡ false
    → q ≡ dotted p x y (painted_first (looks_of assets screen ws) (take k ws)) → q ≡ dotted p x y (painted_first (looks_of assets screen ws) (take (k + 1) ws))
windows-skip p q assets screen ws d k x y shape lt away so_far =
    let looks = looks_of assets screen ws in
    so_far ∙ dotted-same p x y (painted_first looks (take k ws)) (painted_first looks (take (k + 1) ws)) shape (λ old.
    sym (ap (λ (vs : List Win). painted_first looks vs x y old) (take_more ws k d lt) ∙ windows-away looks (take k ws) (get_or ws k d) (point_at (pos x) (pos y)) 0 away))

pub windows-end : (p q : Picture) (looks : Looks) (ws : List Win) (k x y : ℕ) → length ws ≤ k → q ≡ dotted p x y (painted_first looks (take k ws)) → q ≡ dotted p x y (painted_first looks ws)
windows-end p q looks ws k x y le so_far = so_far ∙ ap (λ (vs : List Win). dotted p x y (painted_first looks vs)) (take_all k ws le)
