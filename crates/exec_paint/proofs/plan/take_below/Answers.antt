use Rattle.std.proofs.Common.{◌≡◌, ◌<◌, [], true, length, get_or, sym, ap, ◌∙◌, arith, rules}
use Rattle.std.proofs.lemmas.Option.{slice_get-get_or}
use Rattle.arrayvec.specs.ArrayVec.{ArrayVec}
use Rattle.gfx_base.specs.declared.rect.Rect.{Rect}
use Rattle.gfx_base.specs.Rects.{has}
use Rattle.scene.specs.Looks.{is_opaque, looks_of}
use Rattle.scene.specs.Painting.{painted}
use Rattle.scene.specs.Places.{no_window}
use Rattle.exec_paint.specs.declared.layer.Layer.{Layer}
use Rattle.exec_paint.proofs.PlanLemmas.{base-colours, open-taken, open-skipped}
use Rattle.exec_paint.proofs.plan.take_below.Goals as goal
use Rattle.exec_paint.proofs.plan.take_below.Goals.{then-meets+in_ok-bare, else-meets}

pub returns-then-is_opaque-clause-colours : goal.returns-then-is_opaque-clause-colours
returns-then-is_opaque-clause-colours g c = λ p old here clear.
    let a = c.args in
    let ws = a.stack.now in
    let looks = looks_of a.assets.now a.screen.now ws in
    let opaque : is_opaque a.assets.now (get_or ws a.which no_window) ≡ true = ap (is_opaque a.assets.now) (sym c.window_of.ensures) ∙ sym c.is_opaque.ensures ∙ c.if-is_opaque.true in
    rw (c.in_ok-add_layer.ensures.windows, c.requires.layers)
    (open-taken looks ws p (painted looks ws p) old a.which [] c.requires.which (base-colours a.assets.now a.screen.now ws a.which p old c.requires.which opaque (c.requires.area p here)))

pub add_over-requires : goal.add_over-requires
add_over-requires g c =
    let ws = c.args.stack.now in
    let lt : c.loop-i.i < length ws = omega arith in
    let at = slice_get-get_or ws c.loop-i.i no_window lt in
    let spot = c.next_spot-spot.ensures in
    (search rules, (c.requires.windows, (lt, (spot.corner _ at, (spot.clip _ at, (c.loop-i.invariant.layers, c.loop-i.invariant.colours))))))

pub loop-i-preserved : goal.loop-i-preserved
loop-i-preserved g c =
    let a = c.args in
    let ws = a.stack.now in
    let i = c.loop-i.i in
    let looks = looks_of a.assets.now a.screen.now ws in
    let lt : i < length ws = omega arith in
    let clip = c.next_spot-spot.ensures.clip (get_or ws i no_window) (slice_get-get_or ws i no_window lt) in
    let inv = c.loop-i.invariant in
    elim c.if-meets.branch [
      | then-meets+in_ok-bare w ↦
          let is : c.if-meets.layers.items ≡ w.add_over.new.layers.items = ap (λ (v : ArrayVec Layer). v.items) w.layers-is in
          rw (is, w.bare-is) (record {
            ancestors = c.next_spot-spot.ensures.ancestors;
            layers = w.add_over.ensures.layers;
            count = omega (arith, w.add_over.ensures.count, inv.count);
            colours = w.in_ok-bare.ensures.colours;
          })
      | else-meets w ↦
          let is : c.if-meets.layers.items ≡ c.loop-i.layers.items = ap (λ (v : ArrayVec Layer). v.items) w.layers-is in
          rw (is, w.bare-is) (record {
            ancestors = c.next_spot-spot.ensures.ancestors;
            layers = inv.layers;
            count = omega (arith, inv.count);
            colours = λ p old here clear. open-skipped looks ws p _ _ i lt (ap (λ (r : Rect). has r p) (sym clip) ∙ c.meets.ensures w.if-meets.false p here) (inv.colours p old here clear);
          })
    ]
