use Rattle.std.proofs.Common.{◌≡◌, get_or, sym, ap, ◌∙◌, w32, SFits, rules, arith}
use Rattle.std.proofs.lemmas.Bool.{and_parts}
use Rattle.std.proofs.lemmas.Option.{slice_get-get_or}
use Rattle.std.proofs.lemmas.Int.{ints, to_z-of_z}
use Rattle.gfx_base.specs.declared.point.Point.{Point}
use Rattle.gfx_base.specs.declared.rect.Rect.{Rect}
use Rattle.gfx_base.specs.Rects.{has}
use Rattle.gfx_base.proofs.CallerLemmas.{has-empty}
use Rattle.paint_ops.specs.Operations.{seen_from}
use Rattle.scene.specs.Places.{no_window}
use Rattle.scene.specs.Clips.{corner_in, clip_in}
use Rattle.scene.specs.Looks.{IsPaintable, screen_with, looks_of}
use Rattle.scene.proofs.CallerLemmas.{has-clip_in, all-at}
use Rattle.exec_paint.proofs.CallerLemmas.{on-screen}
use Rattle.strokes.proofs.VisibleLemmas.{spot_meets, free_points, hidden_points, unseen_points, near_corner}
use Rattle.strokes.proofs.visible.visible_part.Goals as goal

pub returns-then-is_empty-clause-none : goal.returns-then-is_empty-clause-none
returns-then-is_empty-clause-none c q =
    let a = c.args in
    let ws = a.stack.now in
    let w = get_or ws a.i no_window in
    let at = slice_get-get_or ws a.i no_window c.requires.place in
    let clip = c.next_spot-spot.ensures.clip w at ∙ ap (λ (s : Rect). clip_in s ws w) c.screen-screen.ensures in
    unseen_points (looks_of a.assets.now (screen_with a.width a.height) ws) ws a.i a.rect.now q
    (ap (λ (r : Rect). has r q) (sym clip) ∙ has-empty c.next_spot-spot.result.clip q (sym c.is_empty.ensures.value ∙ c.if-is_empty.true))

pub shift-requires-clause-by : goal.shift-requires-clause-by
shift-requires-clause-by c =
    let a = c.args in
    let ws = a.stack.now in
    let w = get_or ws a.i no_window in
    let screen = screen_with a.width a.height in
    let spot = c.next_spot-spot.result in
    let at = slice_get-get_or ws a.i no_window c.requires.place in
    let corner : spot.corner ≡ corner_in ws w = c.next_spot-spot.ensures.corner w at in
    let clip : spot.clip ≡ clip_in screen ws w = c.next_spot-spot.ensures.clip w at ∙ ap (λ (s : Rect). clip_in s ws w) c.screen-screen.ensures in
    let paintable = all-at (IsPaintable a.assets.now) ws a.i no_window c.requires.windows c.requires.place in
    let near = near_corner a.width a.height ws w spot.clip paintable.width paintable.height c.requires.sides.0 c.requires.sides.1 clip (sym c.is_empty.ensures.value ∙ c.if-is_empty.false) in
    let f0 : SFits w32 spot.corner.x = search rules in
    let f1 : SFits w32 spot.corner.y = search rules in
    rw (to_z-of_z w32 spot.corner.x f0, to_z-of_z w32 spot.corner.y f1, corner) ((omega (arith, ints, near.0), omega (arith, ints, near.0)), (omega (arith, ints, near.1), omega (arith, ints, near.1)))

pub returns-then-is_empty-2-clause-none : goal.returns-then-is_empty-2-clause-none
returns-then-is_empty-2-clause-none c =
    let a = c.args in
    let ws = a.stack.now in
    let w = get_or ws a.i no_window in
    let screen = screen_with a.width a.height in
    let spot = c.next_spot-spot.result in
    let at = slice_get-get_or ws a.i no_window c.requires.place in
    let corner : spot.corner ≡ corner_in ws w = c.next_spot-spot.ensures.corner w at in
    let f0 : SFits w32 spot.corner.x = search rules in
    let f1 : SFits w32 spot.corner.y = search rules in
    let moved : (q : Point) → has c.shift.result q ≡ has a.rect.now (seen_from spot.corner q) = λ q. simp to_z-of_z at (c.shift.ensures.points q) in
    let meets = spot_meets c.screen-screen.result screen ws w spot.clip c.shift.result c.meet-area.result a.rect.now spot.corner (c.next_spot-spot.ensures.clip w at) c.screen-screen.ensures moved c.meet-area.ensures.points in
    hidden_points (looks_of a.assets.now screen ws) ws a.i a.rect.now c.meet-area.result spot.corner corner meets
    (λ q h. absurd (cc (sym h ∙ has-empty c.meet-area.result q (sym c.is_empty-2.ensures.value ∙ c.if-is_empty-2.true))))

pub returns-then-take_holes-clause-none : goal.returns-then-take_holes-clause-none
returns-then-take_holes-clause-none c =
    let a = c.args in
    let ws = a.stack.now in
    let w = get_or ws a.i no_window in
    let screen = screen_with a.width a.height in
    let spot = c.next_spot-spot.result in
    let at = slice_get-get_or ws a.i no_window c.requires.place in
    let corner : spot.corner ≡ corner_in ws w = c.next_spot-spot.ensures.corner w at in
    let f0 : SFits w32 spot.corner.x = search rules in
    let f1 : SFits w32 spot.corner.y = search rules in
    let moved : (q : Point) → has c.shift.result q ≡ has a.rect.now (seen_from spot.corner q) = λ q. simp to_z-of_z at (c.shift.ensures.points q) in
    let meets = spot_meets c.screen-screen.result screen ws w spot.clip c.shift.result c.meet-area.result a.rect.now spot.corner (c.next_spot-spot.ensures.clip w at) c.screen-screen.ensures moved c.meet-area.ensures.points in
    hidden_points (looks_of a.assets.now screen ws) ws a.i a.rect.now c.meet-area.result spot.corner corner meets (rw c.screen-screen.ensures at (c.take_holes.ensures.hidden c.if-take_holes.true))

pub returns-clause-some : goal.returns-clause-some
returns-clause-some c =
    let a = c.args in
    let ws = a.stack.now in
    let w = get_or ws a.i no_window in
    let screen = screen_with a.width a.height in
    let spot = c.next_spot-spot.result in
    let at = slice_get-get_or ws a.i no_window c.requires.place in
    let corner : spot.corner ≡ corner_in ws w = c.next_spot-spot.ensures.corner w at in
    let clip : spot.clip ≡ clip_in screen ws w = c.next_spot-spot.ensures.clip w at ∙ ap (λ (s : Rect). clip_in s ws w) c.screen-screen.ensures in
    let paintable = all-at (IsPaintable a.assets.now) ws a.i no_window c.requires.windows c.requires.place in
    let near = near_corner a.width a.height ws w spot.clip paintable.width paintable.height c.requires.sides.0 c.requires.sides.1 clip (sym c.is_empty.ensures.value ∙ c.if-is_empty.false) in
    let f0 : SFits w32 spot.corner.x = search rules in
    let f1 : SFits w32 spot.corner.y = search rules in
    let moved : (q : Point) → has c.shift.result q ≡ has a.rect.now (seen_from spot.corner q) = λ q. simp to_z-of_z at (c.shift.ensures.points q) in
    let meets = spot_meets c.screen-screen.result screen ws w spot.clip c.shift.result c.meet-area.result a.rect.now spot.corner (c.next_spot-spot.ensures.clip w at) c.screen-screen.ensures moved c.meet-area.ensures.points in
    record {
      corner = corner;
      near = rw corner near;
      area = on-screen a.width a.height c.meet-area.result (λ q h. has-clip_in screen ws w q (and_parts _ _ (sym (meets q) ∙ h)).0) (sym c.is_empty-2.ensures.value ∙ c.if-is_empty-2.false);
      inside = λ q h. (and_parts _ _ (sym (meets q) ∙ h)).1;
      few = c.take_holes.ensures.few;
      points = free_points (looks_of a.assets.now screen ws) ws a.i a.rect.now c.meet-area.result spot.corner corner meets c.take_holes.new.holes.items (rw c.screen-screen.ensures at (c.take_holes.ensures.holes c.if-take_holes.false));
    }
