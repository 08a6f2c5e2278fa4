use Rattle.std.proofs.Common.{◌≡◌, ℕ, ◌+◌, ◌-◌, suc, ap, sym, ◌∙◌, arith, length, ◌++◌, ◌∷◌, []}
use Rattle.gui_lock.specs.Rule.{without_next, with_next}
use Rattle.gui_lock.specs.Passes.{terms_of, new_passes}
use Rattle.gui_lock.proofs.SeatsKeepRule.{splits, next_view, rest_view}
use Rattle.gui_lock.proofs.PassesGathered.{length_new, new_is, new_more}
use Rattle.gui_lock.proofs.open.deal.Goals as goal

pub split_seat-next-requires : goal.split_seat-next-requires
split_seat-next-requires g c =
    let i = c.loop-number.invariant in (
      i.4 ∙ sym (ap (λ l. l.table) c.lock.view_is),
      (let s = c.lock.invariant.0 in omega arith),
      splits g.V.Kept.entries g.V.Kept.kind _ _ c.loop-number.seat.me.0 (ap (λ m. m.0.turns) i.5),
    )

pub push_reserved-requires : goal.push_reserved-requires
push_reserved-requires g c =
    let i = c.loop-number.invariant in
    let e : length c.loop-number.all.items ≡ i.1 = ap length i.6 ∙ length_new g.row.V-Call.Denot c.args.lock.now 1 i.1 in
    let a = i.3 in let b = i.7 in let t = c.loop-number-test.true in omega arith

pub push_reserved-requires-2 : goal.push_reserved-requires-2
push_reserved-requires-2 g c =
    let i = c.loop-number.invariant in
    let e : length c.loop-number.all.items ≡ i.1 = ap length i.6 ∙ length_new g.row.V-Call.Denot c.args.lock.now 1 i.1 in
    let a = i.3 in let b = i.7 in let d = i.2 in let t = c.loop-number-test.false in let u = c.loop-number.auto.number-end in let s = c.requires.some in omega arith

pub loop-number-preserved : goal.loop-number-preserved
loop-number-preserved g c =
    let i = c.loop-number.invariant in
    let a = i.2 in
    let b = i.3 in
    let t = c.loop-number-test.true in
    let k : ℕ = c.loop-number.number in
    let n : ℕ = c.args.passes - k in
    let up : suc i.1 ≡ i.1 + 1 = omega arith in
    let more : i.0 ≡ suc n = omega arith in
    let view = c.split_seat-next.ensures in
    let lock = c.args.lock.now in
    let next = ap (λ m. with_next m.0) i.5 ∙ next_view (terms_of lock) k i.0 (omega arith) in
    let new = new_is lock _ _ k (view.3 ∙ i.4) (ap (λ m. m.0.terms) view.4 ∙ ap (λ v. v.terms) next) in (
      n,
      i.1 + 1,
      (omega arith),
      (omega arith),
      view.0 ∙ i.4,
      view.2 ∙ (ap (λ m. (without_next m.0, m.1)) i.5 ∙ ap (λ v. (v, [])) (rest_view (terms_of lock) k (k + 1) i.0 n more (omega arith))),
      c.push_reserved.ensures.items ∙ (ap (λ l. l ++ c.of_seat.result ∷ []) i.6 ∙ (new_more lock 1 i.1 k c.of_seat.result (c.of_seat.ensures ∙ new) (omega arith) ∙ ap (new_passes lock 1) up)),
      (let d = i.7 in let e = c.push_reserved.ensures.capacity in omega arith),
    )

pub returns : goal.returns
returns g c =
    let i = c.loop-number.invariant in
    let a = i.2 in
    let b = i.3 in
    let t = c.loop-number-test.false in
    let u = c.loop-number.auto.number-end in
    let s = c.requires.some in
    let lock = c.args.lock.now in
    let up : suc i.1 ≡ c.args.passes = omega arith in
    let new = new_is lock _ _ c.args.passes i.4 (ap (λ m. m.0.terms) i.5) in
    c.push_reserved-2.ensures.items ∙ (ap (λ l. l ++ c.of_seat-2.result ∷ []) i.6 ∙ (new_more lock 1 i.1 c.args.passes c.of_seat-2.result (c.of_seat-2.ensures ∙ new) (omega arith) ∙ ap (new_passes lock 1) up))
