use Rattle.std.proofs.Common.{◌≡◌, ◌+◌, ◌-◌, ◌<◌, ◌≤◌, ◌∷◌, length, get_or, drop, All}
use Rattle.std.proofs.Common.{refl, ap, inr, ◌∙◌, arith}
use Rattle.std.proofs.lemmas.List.{drop_more}
use Rattle.std.proofs.lemmas.List.Elements.{All-cons, All-weaker}
use Rattle.std.proofs.lemmas.List.Kept.{AllPairs-cons}
use Rattle.scene.specs.declared.win.Win.{Win}
use Rattle.scene.specs.Places.{no_window}
use Rattle.samples.proofs.RisingLemmas.{AreSingle-pairs}
use Rattle.samples.proofs.setups.are_single.Goals as goal

pub loop-i-preserved : goal.loop-i-preserved
loop-i-preserved c =
    let ws = c.args.stack.now in
    let i = c.loop-i.i in
    let w = get_or ws (i - 1) no_window in
    let rest = drop i ws in
    let lt : i - 1 < length ws = omega arith in
    let step : (i - 1) + 1 ≡ i = omega arith in
    let front : drop (i - 1) ws ≡ w ∷ rest =
    drop_more ws (i - 1) no_window lt ∙ ap (λ k. w ∷ drop k ws) step in
    let less : w.handle < c.loop-i.next = omega (arith, c.if-next-handle.false) in
    let old = c.loop-i.invariant in
    let above : All (λ (v : Win). w.handle < v.handle) rest =
    All-weaker (λ (v : Win). c.loop-i.next ≤ v.handle) (λ (v : Win). w.handle < v.handle)
    (λ v high. omega arith) rest old.above in
    let from : All (λ (v : Win). w.handle ≤ v.handle) rest =
    All-weaker (λ (v : Win). w.handle < v.handle) (λ (v : Win). w.handle ≤ v.handle)
    (λ v high. omega arith) rest above in
    rw front
    (record {
      fits = omega arith;
      above = All-cons (λ (v : Win). w.handle ≤ v.handle) w rest (omega arith) from;
      below = All-cons (λ (v : Win). v.handle < 4294967295) w rest (omega arith) old.below;
      rising = AllPairs-cons (λ (u v : Win). u.handle < v.handle) w rest above old.rising;
      first = inr (lt, refl);
    })

pub returns-clause-single : goal.returns-clause-single
returns-clause-single c =
    let start : c.loop-i.i ≡ 0 = omega arith in
    λ _. AreSingle-pairs c.args.stack.now (rw start at c.loop-i.invariant.rising)
