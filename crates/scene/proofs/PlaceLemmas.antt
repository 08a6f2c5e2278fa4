-- Clips depend on places alone, and lie on the screen.
use Rattle.std.proofs.Common.{◌≡◌, ℕ, zero, suc, ◌+◌, ◌<◌, ◌≤◌, Bool, true, false, cond, eqb, List, [], ◌∷◌, map, Option, Some, None, refl, sym, ap, subst, inl, inr, ◌∙◌, arith}
use Rattle.std.specs.Prelude.{option_map}
use Rattle.std.proofs.Math.Path.{fun_ext}
use Rattle.std.proofs.lemmas.Bool.{cases_Bool, eqb-true, false≢true, and_parts}
use Rattle.std.proofs.lemmas.Bool.Decides.{nat_tests}
use Rattle.std.specs.List.{AllByRecursion}
use Rattle.std.proofs.lemmas.Simd.{map-map}
use Rattle.gfx_base.specs.declared.point.Point.{Point}
use Rattle.gfx_base.specs.declared.rect.Rect.{Rect}
use Rattle.gfx_base.specs.Rects.{no_points, has, meet}
use Rattle.gfx_base.proofs.CallerLemmas.{has-meet, has-no_points}
use Rattle.scene.specs.declared.win.Win.{Win}
use Rattle.scene.specs.Places.{Place, place_of, place_at, parent_in, number_of, AreSingle}
use Rattle.scene.specs.Clips.{deepest_level, corner_of, frame_of, clip_of, outer_clip, clip_in}

-- ---- by places

-- the first place that has the handle
abbrev place_in : List Place → ℕ → Option Place
place_in [] handle = None
place_in (q ∷ qs) handle = cond (eqb q.handle handle) (Some q) (place_in qs handle)

option_map-cond : {A B : Type 0} (f : A → B) (b : Bool) (x : A) (o : Option A) → option_map f (cond b (Some x) o) ≡ cond b (Some (f x)) (option_map f o)
option_map-cond f true x o = refl
option_map-cond f false x o = refl

place_at-map : (ws : List Win) (handle : ℕ) → place_at ws handle ≡ place_in (map place_of ws) handle
place_at-map [] handle = refl
place_at-map (w ∷ ws) handle =
    elim (cases_Bool (eqb w.handle handle)) [
      | inl e ↦ rw e refl
      | inr e ↦ rw e (place_at-map ws handle)
    ]

-- windows that lie where others lie are found where those are found
pub place_at-same : (ws vs : List Win) → map place_of ws ≡ map place_of vs → place_at ws ≡ place_at vs
place_at-same ws vs e = fun_ext (λ handle. place_at-map ws handle ∙ ap (λ qs. place_in qs handle) e ∙ sym (place_at-map vs handle))

-- how many of the places have the handle
abbrev number_in : ℕ → List Place → ℕ
number_in handle [] = 0
number_in handle (q ∷ qs) = cond (eqb q.handle handle) 1 0 + number_in handle qs

number_of-map : (handle : ℕ) (ws : List Win) → number_of handle ws ≡ number_in handle (map place_of ws)
number_of-map handle [] = refl
number_of-map handle (w ∷ ws) = ap (λ n. cond (eqb w.handle handle) 1 0 + n) (number_of-map handle ws)

-- no handle stands twice in windows that lie where windows lie of which that is true
pub AreSingle-same : (ws vs : List Win) → map place_of ws ≡ map place_of vs → AreSingle vs → AreSingle ws
AreSingle-same ws vs e single handle =
    let same : number_of handle ws ≡ number_of handle vs = number_of-map handle ws ∙ ap (number_in handle) e ∙ sym (number_of-map handle vs) in
    rw same (single handle)

none_below : (low handle : ℕ) (ws : List Win) → handle < low → AllByRecursion (λ v. low ≤ v.handle) ws → number_of handle ws ≡ 0
none_below low handle [] less all = refl
none_below low handle (w ∷ ws) less all =
    let other : eqb w.handle handle ≡ false = let here : low ≤ w.handle = all.0 in grind (arith, nat_tests) in
    rw (other, none_below low handle ws less all.1) refl

at_least : (low high : ℕ) (ws : List Win) → low ≤ high → AllByRecursion (λ v. high ≤ v.handle) ws → AllByRecursion (λ v. low ≤ v.handle) ws
at_least low high [] less all = tt
at_least low high (w ∷ ws) less all = (let here : high ≤ w.handle = all.0 in omega arith, at_least low high ws less all.1)

-- no handle stands twice where each is above those before it
pub AreSingle-rising : (low : ℕ) (w : Win) (ws : List Win) → w.handle < low → AllByRecursion (λ v. low ≤ v.handle) ws → AreSingle ws → AllByRecursion (λ v. w.handle ≤ v.handle) (w ∷ ws) × AreSingle (w ∷ ws)
AreSingle-rising low w ws less all single = (
  (omega arith, at_least w.handle low ws (omega arith) all),
  λ handle.
      elim (cases_Bool (eqb w.handle handle)) [
        | inl e ↦
            let same : w.handle ≡ handle = eqb-true w.handle handle e in
            rw (e, none_below low handle ws (omega (arith, same, less)) all) (omega arith)
        | inr e ↦ let rest : number_of handle ws ≤ 1 = single handle in rw e (omega arith)
      ],
)

-- the clips of all windows depend on their places alone
pub clips-same : (screen : Rect) (ws vs : List Win) → map place_of ws ≡ map place_of vs → map (clip_in screen ws) ws ≡ map (clip_in screen vs) vs
clips-same screen ws vs e =
    sym (map-map (clip_of deepest_level screen (place_at ws)) place_of ws)
    ∙ ap (λ (found : ℕ → Option Place). map (clip_of deepest_level screen found) (map place_of ws)) (place_at-same ws vs e)
    ∙ ap (map (clip_of deepest_level screen (place_at vs))) e
    ∙ map-map (clip_of deepest_level screen (place_at vs)) place_of vs

-- ---- on the screen

has-outer_clip : (screen : Rect) (top : Bool) (o : Option Rect) (p : Point) → ((clip : Rect) → o ≡ Some clip → has clip p ≡ true → has screen p ≡ true) → has (outer_clip screen top o) p ≡ true → has screen p ≡ true
has-outer_clip screen true o p inner h = h
has-outer_clip screen false (Some clip) p inner h = inner clip refl h
has-outer_clip screen false None p inner h = absurd (false≢true (sym (has-no_points p) ∙ h))

mapped : {A B : Type 0} (f : A → B) (P : B → Type 0) (o : Option A) (y : B) → ((x : A) → P (f x)) → option_map f o ≡ Some y → P y
mapped f P None y all e = absurd cc
mapped f P (Some x) y all e = let same : f x ≡ y = cc in subst P same (all x)

pub shown_part : (b : Bool) (r : Rect) (p : Point) → has (cond b r no_points) p ≡ true → has r p ≡ true
shown_part true r p h = h
shown_part false r p h = absurd (false≢true (sym (has-no_points p) ∙ h))

has-clip_of : (levels : ℕ) (screen : Rect) (found : ℕ → Option Place) (q : Place) (p : Point) → has (clip_of levels screen found q) p ≡ true → has screen p ≡ true
has-clip_of zero screen found q p h = absurd (false≢true (sym (has-no_points p) ∙ h))
has-clip_of (suc levels) screen found q p h =
    let o = option_map (clip_of levels screen found) (parent_in found q) in
    let outer = outer_clip screen (eqb q.parent 0) o in
    let both = shown_part q.shown (meet (frame_of (corner_of (suc levels) found q) q) outer) p h in
    let parts = and_parts _ _ (sym (has-meet (frame_of (corner_of (suc levels) found q) q) outer p) ∙ both) in
    has-outer_clip screen (eqb q.parent 0) o p
    (λ clip e. mapped (clip_of levels screen found) (λ (r : Rect). has r p ≡ true → has screen p ≡ true) (parent_in found q) clip (λ parent. has-clip_of levels screen found parent p) e) parts.1

-- a clip lies on the screen
pub has-clip_in : (screen : Rect) (ws : List Win) (w : Win) (p : Point) → has (clip_in screen ws w) p ≡ true → has screen p ≡ true
has-clip_in screen ws w p h = has-clip_of deepest_level screen (place_at ws) (place_of w) p h
