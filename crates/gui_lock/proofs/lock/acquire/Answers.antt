use Rattle.std.proofs.Common.{◌≡◌, ℕ, ◌<◌, ◌/◌, ◌*◌, Some, ap, sym, ◌∙◌, ◌∷◌, subst, arith}
use Rattle.atomic_table.specs.Table.{rest}
use Rattle.gui_lock.specs.Rule.{claims}
use Rattle.gui_lock.proofs.StepsKeepRule.{acquires}
use Rattle.gui_lock.proofs.lock.acquire.Goals as goal

pub compare_exchange-found-requires : goal.compare_exchange-found-requires
compare_exchange-found-requires g c =
    let n = c.requires.named in
    let word : ℕ = c.peek-word.result in
    let even : word ≡ 2 * (word / 2) = omega (arith, c.if-word-eq0.true) in (
      c.loop.invariant.0 ∙ (c.requires.table ∙ sym (ap (λ l. l.table) c.lock.view_is)),
      (let s = c.lock.invariant.0 in omega arith),
      acquires g.V.Kept.entries g.V.Kept.kind _ _ _ c.loop.seat.me word (word / 2) even n.0 (subst (λ m. 0 < claims n.0 m.0.mine) (sym c.loop.invariant.1) n.1),
    )

pub exchange-requires : goal.exchange-requires
exchange-requires g c =
    let t = c.compare_exchange-found.ensures.2.0 c.if-found-word.true in
    let e = ap (λ m. m.1) t.1 in (c.compare_exchange-found.ensures.0 ∙ (c.loop.invariant.0 ∙ (c.requires.table ∙ sym (ap (λ l. l.table) c.lock.view_is))), (Some t.0, e ∙ ap (λ l. (0, Some t.0) ∷ rest l) (sym e)))
