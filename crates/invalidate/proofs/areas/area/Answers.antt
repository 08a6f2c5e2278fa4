use Rattle.std.proofs.Common.{◌≡◌, ◌<◌, Some, length, get_or, sym, ap, subst, ◌∙◌, arith}
use Rattle.std.specs.Prelude.{slice_get}
use Rattle.std.proofs.lemmas.Option.{slice_get-get_or, get_or_from_slice_get}
use Rattle.gfx_base.specs.Rects.{is_empty}
use Rattle.scene.specs.declared.win.Win.{Win}
use Rattle.scene.specs.Places.{place_of, no_window}
use Rattle.scene.specs.Clips.{deepest_level, clip_of, clip_in}
use Rattle.scene.specs.Damage.{invalidated}
use Rattle.scene.specs.Paths.{AreOnLevels}
use Rattle.scene.proofs.CallerLemmas.{place_at-same, AreSingle-same}
use Rattle.invalidate.proofs.AreaLemmas.{change_more, was_at, places_so_far, nothing_on_screen}
use Rattle.invalidate.proofs.areas.area.Goals as goal

pub returns-then-is_empty : goal.returns-then-is_empty
returns-then-is_empty c =
    nothing_on_screen c.args.screen.now c.args.stack.now c.args.a.now
    (sym (ap is_empty c.meet.ensures.value) ∙ sym c.is_empty.ensures.value ∙ c.if-is_empty.true)

pub next_spot-requires-clause-single : goal.next_spot-requires-clause-single
next_spot-requires-clause-single c =
    let ws = c.args.stack.now in
    let places = places_so_far (clip_in c.args.screen.now ws) c.args.a.now ws c.loop-i.stack c.loop-i.i c.loop-i.invariant.stack in
    AreSingle-same c.loop-i.stack ws places c.requires.single

pub next_spot-requires-clause-ancestors : goal.next_spot-requires-clause-ancestors
next_spot-requires-clause-ancestors c =
    let ws = c.args.stack.now in
    let places = places_so_far (clip_in c.args.screen.now ws) c.args.a.now ws c.loop-i.stack c.loop-i.i c.loop-i.invariant.stack in
    subst (λ by. AreOnLevels by c.args.screen.now 1 c.loop-i.ancestors) (sym (place_at-same c.loop-i.stack ws places)) c.loop-i.invariant.ancestors

pub loop-i-preserved : goal.loop-i-preserved
loop-i-preserved c =
    let ws = c.args.stack.now in
    let us = c.loop-i.stack in
    let i = c.loop-i.i in
    let screen = c.args.screen.now in
    let less = c.loop-i-test.true in
    let found = place_at-same us ws (places_so_far (clip_in screen ws) c.args.a.now ws us i c.loop-i.invariant.stack) in
    let w = get_or ws i no_window in
    let f : Win → Win = λ v. invalidated (clip_in screen ws v) c.args.a.now v in
    let inside : i < length us = omega (arith, less, c.loop-i.auto.stack) in
    let same : get_or us i no_window ≡ w = was_at f ws us i no_window less c.loop-i.invariant.stack in
    let at : slice_get us i ≡ Some w = slice_get-get_or us i no_window inside ∙ ap Some same in
    let clip = c.next_spot.ensures.clip w at ∙ ap (λ by. clip_of deepest_level screen by (place_of w)) found in
    record {
      stack = change_more f ws us i c.grow.new.window w no_window less c.loop-i.invariant.stack (sym (get_or_from_slice_get ws i w w (slice_get-get_or ws i no_window less)))
          (c.grow.ensures
          ∙ ap (invalidated _ c.args.a.now) same
          ∙ ap (λ r. invalidated r c.args.a.now w) clip);
      ancestors = subst (λ by. AreOnLevels by screen 1 c.next_spot.new.self) found c.next_spot.ensures.ancestors;
    }
