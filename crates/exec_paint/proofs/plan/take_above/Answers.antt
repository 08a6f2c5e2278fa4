use Rattle.std.proofs.Common.{◌≡◌, ◌<◌, ◌∷◌, ◌++◌, [], true, false, length, get_or, sym, ap, ◌∙◌, arith, rules}
use Rattle.std.proofs.lemmas.Option.{slice_get-get_or}
use Rattle.std.proofs.lemmas.List.{length_push}
use Rattle.arrayvec.specs.ArrayVec.{ArrayVec}
use Rattle.gfx_base.specs.declared.point.Point.{Point}
use Rattle.gfx_base.specs.declared.rect.Rect.{Rect}
use Rattle.gfx_base.specs.Rects.{has}
use Rattle.scene.specs.Clips.{clip_in}
use Rattle.scene.specs.Looks.{is_opaque, looks_of}
use Rattle.scene.specs.Places.{no_window}
use Rattle.exec_paint.specs.declared.layer.Layer.{Layer}
use Rattle.exec_paint.specs.declared.plan.Hole.{Hole}
use Rattle.exec_paint.specs.Layers.{windows_in}
use Rattle.exec_paint.specs.Plans.{is_hidden}
use Rattle.exec_paint.proofs.PlanLemmas.{covers-points, open-taken, open-skipped, hidden-push, hides-here, hides-hole, hides-layer, hides-skipped, neither}
use Rattle.exec_paint.proofs.plan.take_above.Goals as goal
use Rattle.exec_paint.proofs.plan.take_above.Goals.{then-meets+then-is_opaque+else-covers+in_ok-add_hole, then-meets+else-is_opaque+in_ok-add_layer, else-meets}

pub returns-then-covers-clause-hidden : goal.returns-then-covers-clause-hidden
returns-then-covers-clause-hidden g c = λ one p here.
    let a = c.args in
    let ws = a.stack.now in
    let i = c.loop-i.i in
    let looks = looks_of a.assets.now a.screen.now ws in
    let lt : i < length ws = c.loop-i-test.true in
    let clip : c.next_spot-spot.result.clip ≡ clip_in a.screen.now ws (get_or ws i no_window) = c.next_spot-spot.ensures.clip (get_or ws i no_window) (slice_get-get_or ws i no_window lt) in
    let opaque : is_opaque a.assets.now (get_or ws i no_window) ≡ true = ap (is_opaque a.assets.now) (sym c.window_of.ensures) ∙ sym c.is_opaque.ensures ∙ c.if-is_opaque.true in
    let at : has (clip_in a.screen.now ws (get_or ws i no_window)) p ≡ true = ap (λ (r : Rect). has r p) (sym clip) ∙ covers-points c.next_spot-spot.result.clip a.area.now p (sym c.covers.ensures ∙ c.if-covers.true) here in
    hides-here looks ws (is_hidden c.loop-i.holes.items p) p i _ lt at opaque (c.loop-i.invariant.holes p here)

pub add_layer-requires : goal.add_layer-requires
add_layer-requires g c =
    let at = slice_get-get_or c.args.stack.now c.loop-i.i no_window c.loop-i-test.true in
    let spot = c.next_spot-spot.ensures in
    (search rules, (c.loop-i-test.true, (spot.corner _ at, (spot.clip _ at, c.loop-i.invariant.layers))))

pub loop-i-preserved : goal.loop-i-preserved
loop-i-preserved g c =
    let a = c.args in
    let ws = a.stack.now in
    let i = c.loop-i.i in
    let looks = looks_of a.assets.now a.screen.now ws in
    let lt : i < length ws = c.loop-i-test.true in
    let clip : c.next_spot-spot.result.clip ≡ clip_in a.screen.now ws (get_or ws i no_window) = c.next_spot-spot.ensures.clip (get_or ws i no_window) (slice_get-get_or ws i no_window lt) in
    let inv = c.loop-i.invariant in
    elim c.if-meets.branch [
      | then-meets+then-is_opaque+else-covers+in_ok-add_hole w ↦
          let is : c.if-meets.layers.items ≡ c.loop-i.layers.items = ap (λ (v : ArrayVec Layer). v.items) w.layers-is in
          let hole : Hole = record { clip = c.next_spot-spot.result.clip } in
          let is_holes : c.if-meets.holes.items ≡ c.loop-i.holes.items ++ hole ∷ [] = ap (λ (v : ArrayVec Hole). v.items) w.holes-is ∙ w.in_ok-add_hole.ensures.holes in
          let more = length_push c.loop-i.holes.items hole in
          let opaque : is_opaque a.assets.now (get_or ws i no_window) ≡ true = ap (is_opaque a.assets.now) (sym w.window_of.ensures) ∙ sym w.is_opaque.ensures ∙ w.if-is_opaque.true in
          rw (is, is_holes) (record {
            ancestors = c.next_spot-spot.ensures.ancestors;
            layers = inv.layers;
            count = omega (arith, inv.count);
            few_holes = omega (arith, more, inv.few_holes);
            holes = λ p here. hides-hole looks ws c.loop-i.holes.items c.next_spot-spot.result.clip p i _ lt clip opaque (inv.holes p here);
            colours = λ bare so_far p old here clear_of.
                let apart = neither (is_hidden c.loop-i.holes.items p) (has c.next_spot-spot.result.clip p) (sym (hidden-push c.loop-i.holes.items c.next_spot-spot.result.clip p) ∙ clear_of) in
                open-skipped looks ws p _ _ i lt (ap (λ (r : Rect). has r p) (sym clip) ∙ apart.1) (inv.colours bare so_far p old here apart.0);
          })
      | then-meets+else-is_opaque+in_ok-add_layer w ↦
          let is : c.if-meets.layers.items ≡ w.add_layer.new.layers.items = ap (λ (v : ArrayVec Layer). v.items) w.layers-is in
          let is_holes : c.if-meets.holes.items ≡ c.loop-i.holes.items = ap (λ (v : ArrayVec Hole). v.items) w.holes-is in
          let clear : is_opaque a.assets.now (get_or ws i no_window) ≡ false = ap (is_opaque a.assets.now) (sym w.window_of.ensures) ∙ sym w.is_opaque.ensures ∙ w.if-is_opaque.false in
          rw (is, is_holes) (record {
            ancestors = c.next_spot-spot.ensures.ancestors;
            layers = w.add_layer.ensures.layers;
            count = omega (arith, w.add_layer.ensures.count, inv.count);
            few_holes = omega (arith, inv.few_holes);
            holes = λ p here. hides-layer looks ws (is_hidden c.loop-i.holes.items p) p i _ lt clear (inv.holes p here);
            colours = λ bare so_far p old here clear_of. rw w.in_ok-add_layer.ensures.windows (open-taken looks ws p _ _ i (windows_in ws c.loop-i.layers.items) lt (inv.colours bare so_far p old here clear_of));
          })
      | else-meets w ↦
          let is : c.if-meets.layers.items ≡ c.loop-i.layers.items = ap (λ (v : ArrayVec Layer). v.items) w.layers-is in
          let is_holes : c.if-meets.holes.items ≡ c.loop-i.holes.items = ap (λ (v : ArrayVec Hole). v.items) w.holes-is in
          let away : (p : Point) → has a.area.now p ≡ true → has (looks.clip (get_or ws i no_window)) p ≡ false = λ p here. ap (λ (r : Rect). has r p) (sym clip) ∙ c.meets.ensures w.if-meets.false p here in
          rw (is, is_holes) (record {
            ancestors = c.next_spot-spot.ensures.ancestors;
            layers = inv.layers;
            count = omega (arith, inv.count);
            few_holes = omega (arith, inv.few_holes);
            holes = λ p here. hides-skipped looks ws (is_hidden c.loop-i.holes.items p) p i _ lt (away p here) (inv.holes p here);
            colours = λ bare so_far p old here clear_of. open-skipped looks ws p _ _ i lt (away p here) (inv.colours bare so_far p old here clear_of);
          })
    ]
