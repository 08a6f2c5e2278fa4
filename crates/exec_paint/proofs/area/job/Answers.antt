use Rattle.std.proofs.Common.{◌≡◌, ◌+◌, ◌%◌, ◌^◌, ℕ, false, ◌&&◌, pos, Option, Some, None, List, get_or, drop, sym, ap, ◌∙◌}
use Rattle.std.specs.Prelude.{slice_get}
use Rattle.std.proofs.lemmas.Bool.{and_parts}
use Rattle.std.proofs.lemmas.Option.{get_or_from_slice_get, slice_get-get_or}
use Rattle.gfx_base.specs.declared.point.Point.{Point}
use Rattle.gfx_base.specs.declared.rect.Rect.{Rect}
use Rattle.gfx_base.specs.Rects.{has, point_at}
use Rattle.gfx_base.proofs.CallerLemmas.{has-empty}
use Rattle.frame.specs.Canvases.{Canvas}
use Rattle.scene.specs.declared.win.Win.{Win}
use Rattle.scene.specs.Clips.{clip_in}
use Rattle.scene.specs.Looks.{screen_with}
use Rattle.scene.specs.Damage.{in_patch_at}
use Rattle.scene.proofs.CallerLemmas.{has-clip_in, in_patch_at-get}
use Rattle.scene.specs.Places.{no_window}
use Rattle.exec_paint.specs.Areas.{is_open}
use Rattle.exec_paint.proofs.AreaLemmas.{screen_is, looks_on, on-screen, open-patch, patch-painted, patch-empty, patch-valid, patch-outside, tiles-same, tiles-empty}
use Rattle.frame.proofs.CallerLemmas.{points_in-same, points_in-none, no_more}
use Rattle.exec_paint.proofs.area.job.Goals as goal
use Rattle.exec_paint.proofs.area.job.Goals.{in-Some+else-not-is_empty, in_default}

-- what the area has, by the window's clip and its invalid rectangle
meeting : (screen sides : Rect) (ws : List Win) (w : Win) (clip invalid area : Rect) (p : Point) → screen ≡ sides → clip ≡ clip_in screen ws w → has area p ≡ (has clip p && has invalid p) → has area p ≡ (has (clip_in sides ws w) p && has invalid p)
meeting screen sides ws w clip invalid area p e f g = g ∙ ap (λ (r : Rect). has r p && has invalid p) (f ∙ ap (λ (s : Rect). clip_in s ws w) e)

invalid_is : (ws : List Win) (i : ℕ) (found w : Win) (o : Option Rect) → found ≡ get_or ws i no_window → slice_get ws i ≡ Some w → found.invalid ≡ o → w.invalid ≡ o
invalid_is ws i found w o e f g = ap (λ (v : Win). v.invalid) (sym (get_or_from_slice_get ws i w no_window f) ∙ sym e) ∙ g

pub paint_area-requires-clause-area : goal.paint_area-requires-clause-area
paint_area-requires-clause-area c =
    let a = c.args in
    let p = a.target.now.picture in
    let ws = a.stack.now in
    let w = get_or ws a.which no_window in
    let screen = screen_is c.screen-screen.result p c.width.result c.height.result c.screen-screen.ensures c.width.ensures.value c.height.ensures in
    let clip = c.ground.ensures w (slice_get-get_or ws a.which no_window c.requires.which) in
    on-screen p.width p.height c.meet-area.result
    (λ r h. has-clip_in (screen_with p.width p.height) ws w r (and_parts _ _ (sym (meeting c.screen-screen.result (screen_with p.width p.height) ws w c.ground.result c.in-Some.invalid c.meet-area.result r screen clip (c.meet-area.ensures.points r)) ∙ h)).0)
    (sym c.is_empty.ensures.value ∙ c.if-not-is_empty.true)

pub paint_area-requires-clause-inside : goal.paint_area-requires-clause-inside
paint_area-requires-clause-inside c = λ r here.
    let a = c.args in
    let p = a.target.now.picture in
    let ws = a.stack.now in
    let w = get_or ws a.which no_window in
    let screen = screen_is c.screen-screen.result p c.width.result c.height.result c.screen-screen.ensures c.width.ensures.value c.height.ensures in
    let clip = c.ground.ensures w (slice_get-get_or ws a.which no_window c.requires.which) in
    (and_parts _ _ (sym (meeting c.screen-screen.result (screen_with p.width p.height) ws w c.ground.result c.in-Some.invalid c.meet-area.result r screen clip (c.meet-area.ensures.points r)) ∙ here)).0

-- the open points of the area are those of the patch
open_is_patch : (c : goal.After-paint_area) (r : Point)
    → is_open (looks_on c.args.assets.now c.args.stack.now c.args.target.now.picture) (drop (c.args.which + 1) c.args.stack.now) c.meet-area.result r
    ≡ in_patch_at (looks_on c.args.assets.now c.args.stack.now c.args.target.now.picture) c.args.stack.now c.args.which r
open_is_patch c r =
    let a = c.args in
    let p = a.target.now.picture in
    let ws = a.stack.now in
    let w = get_or ws a.which no_window in
    let at = slice_get-get_or ws a.which no_window c.requires.which in
    let screen = screen_is c.screen-screen.result p c.width.result c.height.result c.screen-screen.ensures c.width.ensures.value c.height.ensures in
    let looks = looks_on a.assets.now ws p in
    let above = drop (a.which + 1) ws in
    let invalid = invalid_is ws a.which c.window_of-window.result.now w (Some c.in-Some.invalid) c.window_of-window.ensures at c.in-Some.is in
    open-patch looks w above c.meet-area.result c.in-Some.invalid r invalid
    (meeting c.screen-screen.result (screen_with p.width p.height) ws w c.ground.result c.in-Some.invalid c.meet-area.result r screen (c.ground.ensures w at) (c.meet-area.ensures.points r))
    ∙ sym (in_patch_at-get looks ws a.which w r at)

pub returns-then-not-is_empty-clause-picture : goal.returns-then-not-is_empty-clause-picture
returns-then-not-is_empty-clause-picture c =
    let a = c.args in
    let p = a.target.now.picture in
    patch-painted p c.paint_area.new.target.picture (looks_on a.assets.now a.stack.now p) a.stack.now a.which (drop (a.which + 1) a.stack.now) c.meet-area.result c.width.ensures.shape (open_is_patch c) c.paint_area.ensures.painted.picture

pub returns-then-not-is_empty-clause-tiles : goal.returns-then-not-is_empty-clause-tiles
returns-then-not-is_empty-clause-tiles c =
    let a = c.args in
    let p = a.target.now.picture in
    let looks = looks_on a.assets.now a.stack.now p in
    tiles-same p.width p.height (λ x y. is_open looks (drop (a.which + 1) a.stack.now) c.meet-area.result (point_at (pos x) (pos y))) (λ x y. in_patch_at looks a.stack.now a.which (point_at (pos x) (pos y))) c.paint_area.result
    (λ x y. open_is_patch c (point_at (pos x) (pos y))) c.paint_area.ensures.tiles

pub returns-then-not-is_empty-clause-once : goal.returns-then-not-is_empty-clause-once
returns-then-not-is_empty-clause-once c composes =
    let a = c.args in
    let f = a.target.now in
    let p = f.picture in
    let looks = looks_on a.assets.now a.stack.now p in
    ap (λ (g : Canvas). g.writes) (c.paint_area.ensures.painted.once composes)
    ∙ ap (λ (n : ℕ). (f.writes + n) % 2 ^ 64)
    (points_in-same p (λ x y. is_open looks (drop (a.which + 1) a.stack.now) c.meet-area.result (point_at (pos x) (pos y))) (λ x y. in_patch_at looks a.stack.now a.which (point_at (pos x) (pos y))) c.width.ensures.shape (λ x y x_in y_in. open_is_patch c (point_at (pos x) (pos y))))

-- where nothing is painted, the patch has no point
no_patch : (c : goal.After-empty) (r : Point) → in_patch_at (looks_on c.args.assets.now c.args.stack.now c.args.target.now.picture) c.args.stack.now c.args.which r ≡ false
no_patch c r =
    let a = c.args in
    let p = a.target.now.picture in
    let ws = a.stack.now in
    let looks = looks_on a.assets.now ws p in
    let above = drop (a.which + 1) ws in
    let w = get_or ws a.which no_window in
    let at = slice_get-get_or ws a.which no_window c.requires.which in
    let screen = screen_is c.screen-screen.result p c.width.result c.height.result c.screen-screen.ensures c.width.ensures.value c.height.ensures in
    in_patch_at-get looks ws a.which w r at
    ∙ elim c.match-window.branch [
      | in-Some+else-not-is_empty v ↦ patch-outside looks w above v.meet-area.result v.in-Some.invalid r (invalid_is ws a.which c.window_of-window.result.now w (Some v.in-Some.invalid) c.window_of-window.ensures at v.in-Some.is)
          (meeting c.screen-screen.result (screen_with p.width p.height) ws w v.ground.result v.in-Some.invalid v.meet-area.result r screen (v.ground.ensures w at) (v.meet-area.ensures.points r))
          (has-empty v.meet-area.result r (sym v.is_empty.ensures.value ∙ v.if-not-is_empty.false))
      | in_default v ↦ patch-valid looks w above r (invalid_is ws a.which c.window_of-window.result.now w None c.window_of-window.ensures at v.in_default.is)
    ]

pub returns-clause-picture : goal.returns-clause-picture
returns-clause-picture c =
    let a = c.args in
    patch-empty a.target.now.picture (looks_on a.assets.now a.stack.now a.target.now.picture) a.stack.now a.which c.width.ensures.shape (no_patch c)

pub returns-clause-tiles : goal.returns-clause-tiles
returns-clause-tiles c =
    let a = c.args in
    let p = a.target.now.picture in
    let looks = looks_on a.assets.now a.stack.now p in
    tiles-empty p.width p.height (λ x y. in_patch_at looks a.stack.now a.which (point_at (pos x) (pos y))) c.empty.result (λ x y. no_patch c (point_at (pos x) (pos y))) c.empty.ensures

pub returns-clause-once : goal.returns-clause-once
returns-clause-once c composes =
    let a = c.args in
    let f = a.target.now in
    let looks = looks_on a.assets.now a.stack.now f.picture in
    no_more f.writes _ c.frame_is_sound.ensures.count (points_in-none f.picture (λ x y. in_patch_at looks a.stack.now a.which (point_at (pos x) (pos y))) c.width.ensures.shape (λ x y x_in y_in. no_patch c (point_at (pos x) (pos y))))
