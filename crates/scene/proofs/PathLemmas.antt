-- Ancestors on their levels, and the windows that lie in them.
use Rattle.std.proofs.Common.{◌≡◌, ℕ, zero, suc, ◌+◌, ◌<◌, ◌≤◌, true, false, eqb, pos, List, [], ◌∷◌, ◌++◌, length, take, get_or, Option, Some, None, refl, sym, ap, subst, ◌∙◌, inl, inr, arith}
use Rattle.std.specs.Prelude.{slice_get, option_map}
use Rattle.std.proofs.lemmas.Int.{ints}
use Rattle.std.proofs.lemmas.Bool.{cases_Bool, eqb-true}
use Rattle.std.proofs.lemmas.List.Quantifiers.{position-Some}
use Rattle.std.specs.List.{position}
use Rattle.std.proofs.lemmas.List.{length-take-le}
use Rattle.std.proofs.lemmas.Bool.Decides.{nat_tests}
use Rattle.gfx_base.specs.declared.point.Point.{Point}
use Rattle.gfx_base.specs.declared.rect.Rect.{Rect}
use Rattle.gfx_base.specs.Rects.{point_at}
use Rattle.scene.specs.declared.win.Win.{Win}
use Rattle.scene.specs.declared.place.Spot.{Spot}
use Rattle.scene.specs.declared.ancestors.Ancestor.{Ancestor}
use Rattle.scene.specs.Places.{Place, place_of, place_at, parent_in, window_of, number_of}
use Rattle.scene.specs.Clips.{FitsLevels, corner_from, corner_of, clip_from, clip_of, outer_clip}
use Rattle.scene.specs.Paths.{IsSettled, IsOuter, IsOnLevel, AreOnLevels}
use Rattle.scene.proofs.SpotLemmas.{has_parent, FitsLevels-top_left}

-- ---- a path

pub AreOnLevels-take : (found : ℕ → Option Place) (screen : Rect) (level k : ℕ) (path : List Ancestor) → AreOnLevels found screen level path → AreOnLevels found screen level (take k path)
AreOnLevels-take found screen level zero path all = tt
AreOnLevels-take found screen level (suc k) [] all = tt
AreOnLevels-take found screen level (suc k) (a ∷ path) all = (all.0, AreOnLevels-take found screen (suc level) k path all.1)

pub AreOnLevels-at : (found : ℕ → Option Place) (screen : Rect) (level i : ℕ) (path : List Ancestor) (d : Ancestor) → i < length path → AreOnLevels found screen level path → IsOnLevel found screen (i + level) (get_or path i d)
AreOnLevels-at found screen level i [] d less all = absurd (omega arith)
AreOnLevels-at found screen level zero (a ∷ path) d less all = subst (λ (n : ℕ). IsOnLevel found screen n a) (omega arith) all.0
AreOnLevels-at found screen level (suc i) (a ∷ path) d less all =
    let here = AreOnLevels-at found screen (suc level) i path d (omega arith) all.1 in
    let same : i + suc level ≡ suc i + level = omega arith in
    subst (λ (n : ℕ). IsOnLevel found screen n (get_or path i d)) same here

pub AreOnLevels-push : (found : ℕ → Option Place) (screen : Rect) (level : ℕ) (path : List Ancestor) (a : Ancestor) → AreOnLevels found screen level path → IsOnLevel found screen (length path + level) a → AreOnLevels found screen level (path ++ a ∷ [])
AreOnLevels-push found screen level [] a all new = (subst (λ (n : ℕ). IsOnLevel found screen n a) (omega arith) new, tt)
AreOnLevels-push found screen level (b ∷ path) a all new =
    let same : suc (length path) + level ≡ length path + suc level = omega arith in
    (all.0, AreOnLevels-push found screen (suc level) path a all.1 (subst (λ (n : ℕ). IsOnLevel found screen n a) same new))

-- ---- what a window lies in

-- a window without a parent lies in the screen
pub IsOuter-screen : (found : ℕ → Option Place) (screen : Rect) (q : Place) (outer : Spot) → eqb q.parent 0 ≡ true → outer.corner ≡ point_at (pos 0) (pos 0) → outer.clip ≡ outer_clip screen (eqb q.parent 0) None → IsOuter found screen 0 q outer
IsOuter-screen found screen q outer top corner clip = record {
  corner = λ n more. rw (top, corner) refl;
  clip = λ n more. rw (clip, top) refl;
  fits = FitsLevels-top_left 0 outer.corner corner;
}

-- a window lies in its parent
pub IsOuter-settled : (found : ℕ → Option Place) (screen : Rect) (level : ℕ) (q parent : Place) (spot : Spot) → parent_in found q ≡ Some parent → IsSettled found screen level parent spot → IsOuter found screen level q spot
IsOuter-settled found screen level q parent spot is settled =
    let child = has_parent (eqb q.parent 0) (found q.parent) parent is in
    record {
      corner = λ n more. rw is (ap (corner_from q) (sym (settled.corner n more)));
      clip = λ n more. rw (is, child) (ap (clip_from q (corner_from q (corner_of n found parent))) (sym (settled.clip n more)));
      fits = settled.fits;
    }

IsOuter-parent : (found : ℕ → Option Place) (screen : Rect) (level : ℕ) (q : Place) (a : Ancestor) → IsOnLevel found screen level a → eqb q.parent 0 ≡ false → a.handle ≡ q.parent → IsOuter found screen level q a.spot
IsOuter-parent found screen level q a on child same =
    let is : found q.parent ≡ Some on.place = ap found (sym same) ∙ on.is_found in
    IsOuter-settled found screen level q on.place a.spot (rw child is) on.settled

-- a window lies in the one on the path that has its parent's handle, where the path then ends
pub IsOuter-at : (found : ℕ → Option Place) (screen : Rect) (q : Place) (path new : List Ancestor) (d : Ancestor) (k : ℕ) → position (λ (a : Ancestor). eqb a.handle q.parent) path ≡ Some k → AreOnLevels found screen 1 path → (q.parent ≡ 0 → ⊥) → new ≡ take (k + 1) path → IsOuter found screen (length new) q (get_or path k d).spot
IsOuter-at found screen q path new d k is all child shorter =
    let at = position-Some (λ (a : Ancestor). eqb a.handle q.parent) path k d is in
    let less = at.0 in
    let long : k + 1 ≡ length new = sym (ap length shorter ∙ length-take-le (k + 1) path (omega (arith, less))) in
    let on = AreOnLevels-at found screen 1 k path d less all in
    subst (λ (n : ℕ). IsOuter found screen n q (get_or path k d).spot) long
    (IsOuter-parent found screen (k + 1) q (get_or path k d) on (grind (arith, nat_tests, child)) (eqb-true _ _ at.1))

settled_corner : (found : ℕ → Option Place) (screen : Rect) (level n : ℕ) (q : Place) (outer spot : Spot) → suc level ≤ n → IsOuter found screen level q outer → spot.corner ≡ corner_from q outer.corner → corner_of n found q ≡ spot.corner
settled_corner found screen level zero q outer spot more is corner = absurd (omega arith)
settled_corner found screen level (suc n) q outer spot more is corner = sym (corner ∙ is.corner n (omega arith))

settled_clip : (found : ℕ → Option Place) (screen : Rect) (level n : ℕ) (q : Place) (outer spot : Spot) → suc level ≤ n → IsOuter found screen level q outer → spot.corner ≡ corner_from q outer.corner → spot.clip ≡ clip_from q spot.corner outer.clip → clip_of n screen found q ≡ spot.clip
settled_clip found screen level zero q outer spot more is corner clip = absurd (omega arith)
settled_clip found screen level (suc n) q outer spot more is corner clip =
    let here : spot.corner ≡ corner_of (suc n) found q = corner ∙ is.corner n (omega arith) in
    sym (clip ∙ ap (λ (p : Point). clip_from q p outer.clip) here ∙ is.clip n (omega arith))

pub IsSettled-within : (found : ℕ → Option Place) (screen : Rect) (level : ℕ) (q : Place) (outer spot : Spot) → IsOuter found screen level q outer → spot.corner ≡ corner_from q outer.corner → FitsLevels (level + 1) spot.corner → spot.clip ≡ clip_from q spot.corner outer.clip → IsSettled found screen (level + 1) q spot
IsSettled-within found screen level q outer spot is corner fits clip =
    record {
      corner = λ n more. settled_corner found screen level n q outer spot (omega arith) is corner;
      clip = λ n more. settled_clip found screen level n q outer spot (omega arith) is corner clip;
      fits = fits;
    }

-- more places can add up to the point
pub FitsLevels-more : (few many : ℕ) (p : Point) → few ≤ many → FitsLevels few p → FitsLevels many p
FitsLevels-more few many p more h =
    ((omega (arith, ints, h.0.0), omega (arith, ints, h.0.1)), (omega (arith, ints, h.1.0), omega (arith, ints, h.1.1)))

-- ---- windows found by their handles

number_of-none : (handle : ℕ) (ws : List Win) (i : ℕ) (w : Win) → slice_get ws i ≡ Some w → number_of handle ws ≡ 0 → eqb w.handle handle ≡ false
number_of-none handle [] i w at none = absurd cc
number_of-none handle (v ∷ ws) zero w at none =
    let same : v ≡ w = cc in
    elim (cases_Bool (eqb v.handle handle)) [
      | inl e ↦ let n : 1 + number_of handle ws ≡ 0 = rw e at none in absurd (omega (arith, n))
      | inr e ↦ subst (λ (x : Win). eqb x.handle handle ≡ false) same e
    ]
number_of-none handle (v ∷ ws) (suc i) w at none =
    elim (cases_Bool (eqb v.handle handle)) [
      | inl e ↦ let n : 1 + number_of handle ws ≡ 0 = rw e at none in absurd (omega (arith, n))
      | inr e ↦ let n : 0 + number_of handle ws ≡ 0 = rw e at none in number_of-none handle ws i w at (omega (arith, n))
    ]

-- a window that alone has its handle is found by it
pub window_of-single : (ws : List Win) (i : ℕ) (w : Win) → slice_get ws i ≡ Some w → number_of w.handle ws ≤ 1 → window_of ws w.handle ≡ Some w
window_of-single [] i w at few = absurd cc
window_of-single (v ∷ ws) zero w at few =
    let same : v ≡ w = cc in
    let e : eqb v.handle w.handle ≡ true = rw same (grind (arith, nat_tests)) in
    rw e (ap Some same)
window_of-single (v ∷ ws) (suc i) w at few =
    elim (cases_Bool (eqb v.handle w.handle)) [
      | inl e ↦
          let one : 1 + number_of w.handle ws ≤ 1 = rw e at few in
          let clash : eqb w.handle w.handle ≡ false = number_of-none w.handle ws i w at (omega (arith, one)) in
          absurd (grind (arith, nat_tests, clash))
      | inr e ↦ let n : 0 + number_of w.handle ws ≤ 1 = rw e at few in rw e (window_of-single ws i w at (omega (arith, n)))
    ]

pub place_at-single : (ws : List Win) (i : ℕ) (w : Win) → slice_get ws i ≡ Some w → number_of w.handle ws ≤ 1 → place_at ws w.handle ≡ Some (place_of w)
place_at-single ws i w at few = ap (option_map place_of) (window_of-single ws i w at few)

-- a place that a handle finds has the handle
place_at-handle : (ws : List Win) (handle : ℕ) (q : Place) → place_at ws handle ≡ Some q → q.handle ≡ handle
place_at-handle [] handle q e = absurd cc
place_at-handle (w ∷ ws) handle q e =
    elim (cases_Bool (eqb w.handle handle)) [
      | inl here ↦
          let is : Some (place_of w) ≡ Some q = rw here at e in
          let same : place_of w ≡ q = cc in
          ap (λ (r : Place). r.handle) (sym same) ∙ eqb-true w.handle handle here
      | inr away ↦ place_at-handle ws handle q (rw away at e)
    ]

-- a parent is found by its handle
pub parent_found : (ws : List Win) (q parent : Place) → parent_in (place_at ws) q ≡ Some parent → place_at ws parent.handle ≡ Some parent
parent_found ws q parent is =
    let there : place_at ws q.parent ≡ Some parent = rw (has_parent (eqb q.parent 0) (place_at ws q.parent) parent is) at is in
    ap (place_at ws) (place_at-handle ws q.parent parent there) ∙ there
