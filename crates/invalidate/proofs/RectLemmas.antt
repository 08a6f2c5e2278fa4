-- Rectangles of a window, on the screen.
use Rattle.std.proofs.Common.{◌≡◌, ℕ, zero, suc, ◌<◌, ◌≤◌, true, false, pos, negsuc, ℤ, ◌-ℤ◌, List, [], ◌∷◌, set, get_or, Some, refl, sym, ap, subst, ◌∙◌, inl, inr, arith}
use Rattle.std.specs.Prelude.{slice_get}
use Rattle.std.specs.List.{AllByRecursion}
use Rattle.std.proofs.lemmas.Bool.{cases_Bool, false≢true, and_parts}
use Rattle.std.proofs.lemmas.Int.{ints}
use Rattle.std.proofs.lemmas.List.{set-get_or}
use Rattle.std.proofs.lemmas.Option.{get_or_from_slice_get}
use Rattle.gfx_base.specs.declared.rect.Rect.{Rect}
use Rattle.gfx_base.specs.Range.{is_within, IsNear}
use Rattle.gfx_base.specs.Rects.{has, is_empty, meet, point_at}
use Rattle.gfx_base.proofs.CallerLemmas.{has-corner, has-empty, has-meet}
use Rattle.scene.specs.declared.win.Win.{Win}
use Rattle.scene.specs.Clips.{clip_in, corner_in}
use Rattle.scene.specs.Damage.{invalidated}
use Rattle.scene.specs.Looks.{screen_with}
use Rattle.scene.specs.Stacks.{IsStack, IsWindow, BeginWithDesktop, desktop_screen}
use Rattle.scene.proofs.CallerLemmas.{corner_near, has-clip_in}

-- ---- what a window without a clip keeps

pub is_empty-meet : (area clip : Rect) → is_empty clip ≡ true → is_empty (meet area clip) ≡ true
is_empty-meet area clip empty =
    elim (cases_Bool (is_empty (meet area clip))) [
      | inl e ↦ e
      | inr e ↦
          let both = has-meet area clip _ in
          let inside = and_parts _ _ (sym both ∙ has-corner (meet area clip) e) in
          absurd (false≢true (sym (has-empty clip _ empty) ∙ inside.1))
    ]

pub invalidated-nowhere : (clip area : Rect) (w : Win) → is_empty clip ≡ true → invalidated clip area w ≡ w
invalidated-nowhere clip area w empty = rw (is_empty-meet area clip empty) refl

pub rect_unchanged : (ws : List Win) (i : ℕ) (w : Win) (clip area : Rect) → slice_get ws i ≡ Some w → is_empty clip ≡ true → ws ≡ set ws i (invalidated clip area w)
rect_unchanged ws i w clip area at empty =
    sym (ap (set ws i) (invalidated-nowhere clip area w empty ∙ sym (get_or_from_slice_get ws i w w at)) ∙ set-get_or ws i w)

pub invalidated_is : (ws : List Win) (i : ℕ) (w d : Win) (clip mine area yours : Rect) → slice_get ws i ≡ Some w → clip ≡ mine → area ≡ yours → invalidated clip area (get_or ws i d) ≡ invalidated mine yours w
invalidated_is ws i w d clip mine area yours at same so =
    ap (λ r. invalidated r area (get_or ws i d)) same
    ∙ ap (λ r. invalidated mine r (get_or ws i d)) so
    ∙ ap (invalidated mine yours) (get_or_from_slice_get ws i w d at)

-- ---- a window that has a clip lies near the screen

on_axis : (side : ℕ) (z : ℤ) → side ≤ 1024 → is_within (pos 0) (pos side -ℤ pos 1) z ≡ true → (n : ℕ) × (z ≡ pos n) × (n < 1024)
unfolding is_within
on_axis side (pos n) less e = (n, refl, grind (arith, ints))
on_axis side (negsuc n) less e = absurd (grind (arith, ints))

axes : (r : Rect) (x y : ℤ) → has r (point_at x y) ≡ true → (is_within r.x0 r.x1 x ≡ true) × (is_within r.y0 r.y1 y ≡ true)
unfolding has
axes r x y here = and_parts _ _ here

near_corner : (width height : ℕ) (ws : List Win) (w : Win) → width ≤ 1024 → height ≤ 1024 → IsWindow w → is_empty (clip_in (screen_with width height) ws w) ≡ false → IsNear (corner_in ws w).x × IsNear (corner_in ws w).y
near_corner width height ws w narrow low own some =
    let screen = screen_with width height in
    let clip = clip_in screen ws w in
    let here = has-corner clip some in
    let on = axes screen clip.x0 clip.y0 (has-clip_in screen ws w (point_at clip.x0 clip.y0) here) in
    let x = on_axis width clip.x0 narrow on.0 in
    let y = on_axis height clip.y0 low on.1 in
    let H : ℤ → ℤ → Type 0 = λ a b. has clip (point_at a b) ≡ true in
    let X : ℤ → Type 0 = λ a. H a clip.y0 in
    let Y : ℤ → Type 0 = λ b. H (pos x.0) b in
    let near = corner_near screen ws w x.0 y.0 own.width own.height x.2 y.2 (subst Y y.1 (subst X x.1 here)) in
    ((omega (arith, ints, near.0.0), omega (arith, ints, near.0.1)), (omega (arith, ints, near.1.0), omega (arith, ints, near.1.1)))

own_at : (ws : List Win) (i : ℕ) (w : Win) → AllByRecursion IsWindow ws → slice_get ws i ≡ Some w → IsWindow w
own_at [] i w all at = absurd cc
own_at (v ∷ ws) zero w all at = let same : v ≡ w = cc in let P : Win → Type 0 = IsWindow in subst P same all.0
own_at (v ∷ ws) (suc i) w all at = own_at ws i w all.1 at

pub corner_is_near : (screen : Rect) (ws : List Win) (i : ℕ) (w : Win) → IsStack ws → screen ≡ desktop_screen ws → slice_get ws i ≡ Some w → is_empty (clip_in screen ws w) ≡ false → IsNear (corner_in ws w).x × IsNear (corner_in ws w).y
corner_is_near screen ws i w stack is at some =
    let S : Rect → Type 0 = λ s. is_empty (clip_in s ws w) ≡ false in
    by_desktop ws stack.order refl (subst S is some)
  where
    by_desktop : (us : List Win) → BeginWithDesktop us → us ≡ ws → is_empty (clip_in (desktop_screen ws) ws w) ≡ false → IsNear (corner_in ws w).x × IsNear (corner_in ws w).y
    by_desktop [] begins same there = absurd begins
    by_desktop (d ∷ us) begins same there =
        let desk = begins.2 in
        let T : Rect → Type 0 = λ s. is_empty (clip_in s ws w) ≡ false in
        near_corner d.w d.h ws w desk.width (omega (arith, desk.height)) (own_at ws i w stack.windows at) (subst T (sym (ap desktop_screen same)) there)
