use Rattle.std.proofs.Common.{◌≡◌, ◌<◌, ◌∷◌, ◌++◌, [], true, length, get_or, sym, ap, ◌∙◌, arith}
use Rattle.std.proofs.lemmas.Option.{slice_get-get_or}
use Rattle.std.proofs.lemmas.List.{length_push}
use Rattle.arrayvec.specs.ArrayVec.{ArrayVec}
use Rattle.gfx_base.specs.declared.rect.Rect.{Rect}
use Rattle.gfx_base.specs.Rects.{has}
use Rattle.scene.specs.Clips.{clip_in}
use Rattle.scene.specs.Looks.{is_opaque, looks_of}
use Rattle.scene.specs.Places.{no_window}
use Rattle.exec_paint.specs.declared.plan.Hole.{Hole}
use Rattle.exec_paint.specs.Plans.{is_hidden}
use Rattle.exec_paint.proofs.CallerLemmas.{covers-points, hides-here, hides-hole, hides-layer, hides-skipped}
use Rattle.strokes.proofs.visible.take_holes.Goals as goal
use Rattle.strokes.proofs.visible.take_holes.Goals.{then-is_opaque+then-meets+else-covers, else-is_opaque, else-is_opaque-via-then-is_opaque+else-meets, else-is_opaque-via-else-is_opaque}

pub returns-then-covers-clause-hidden : goal.returns-then-covers-clause-hidden
returns-then-covers-clause-hidden c = λ one p here.
    let a = c.args in
    let ws = a.stack.now in
    let i = c.loop-i.i in
    let looks = looks_of a.assets.now a.screen.now ws in
    let lt : i < length ws = c.loop-i-test.true in
    let clip : c.next_spot-spot.result.clip ≡ clip_in a.screen.now ws (get_or ws i no_window) = c.next_spot-spot.ensures.clip (get_or ws i no_window) (slice_get-get_or ws i no_window lt) in
    let opaque : is_opaque a.assets.now (get_or ws i no_window) ≡ true = ap (is_opaque a.assets.now) (sym c.window_of.ensures) ∙ sym c.is_opaque.ensures ∙ c.if-is_opaque.true in
    let at : has (clip_in a.screen.now ws (get_or ws i no_window)) p ≡ true = ap (λ (r : Rect). has r p) (sym clip) ∙ covers-points c.next_spot-spot.result.clip a.area.now p (sym c.covers.ensures ∙ c.if-covers.true) here in
    hides-here looks ws (is_hidden c.loop-i.holes.items p) p i _ lt at opaque (c.loop-i.invariant.holes p here)

pub loop-i-preserved : goal.loop-i-preserved
loop-i-preserved c =
    let a = c.args in
    let ws = a.stack.now in
    let i = c.loop-i.i in
    let looks = looks_of a.assets.now a.screen.now ws in
    let lt : i < length ws = c.loop-i-test.true in
    let clip : c.next_spot-spot.result.clip ≡ clip_in a.screen.now ws (get_or ws i no_window) = c.next_spot-spot.ensures.clip (get_or ws i no_window) (slice_get-get_or ws i no_window lt) in
    let inv = c.loop-i.invariant in
    elim c.if-is_opaque.branch [
      | then-is_opaque+then-meets+else-covers w ↦
          let hole : Hole = record { clip = c.next_spot-spot.result.clip } in
          let is_holes : c.if-is_opaque.holes.items ≡ c.loop-i.holes.items ++ hole ∷ [] = ap (λ (v : ArrayVec Hole). v.items) w.holes-is ∙ w.push.ensures.items in
          let more = length_push c.loop-i.holes.items hole in
          let opaque : is_opaque a.assets.now (get_or ws i no_window) ≡ true = ap (is_opaque a.assets.now) (sym c.window_of.ensures) ∙ sym c.is_opaque.ensures ∙ w.if-is_opaque.true in
          rw is_holes (record {
            ancestors = c.next_spot-spot.ensures.ancestors;
            few = omega (arith, more, inv.few);
            holes = λ p here. hides-hole looks ws c.loop-i.holes.items c.next_spot-spot.result.clip p i _ lt clip opaque (inv.holes p here);
          })
      | else-is_opaque w ↦
          let is_holes : c.if-is_opaque.holes.items ≡ c.loop-i.holes.items = ap (λ (v : ArrayVec Hole). v.items) w.holes-is in
          rw is_holes (record {
            ancestors = c.next_spot-spot.ensures.ancestors;
            few = omega (arith, inv.few);
            holes = λ p here. elim w.else-is_opaque.branch [
              | else-is_opaque-via-then-is_opaque+else-meets v ↦
                  hides-skipped looks ws (is_hidden c.loop-i.holes.items p) p i _ lt (ap (λ (r : Rect). has r p) (sym clip) ∙ v.meets.ensures v.if-meets.false p here) (inv.holes p here)
              | else-is_opaque-via-else-is_opaque v ↦
                  hides-layer looks ws (is_hidden c.loop-i.holes.items p) p i _ lt (ap (is_opaque a.assets.now) (sym c.window_of.ensures) ∙ sym c.is_opaque.ensures ∙ v.if-is_opaque.false) (inv.holes p here)
            ];
          })
    ]
