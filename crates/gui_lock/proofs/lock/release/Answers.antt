use Rattle.std.proofs.Common.{sym, ◌*◌, length, ap, ◌∙◌, arith}
use Rattle.gui_lock.proofs.StepsKeepRule.{releases}
use Rattle.gui_lock.proofs.lock.release.Goals as goal

pub swap-requires : goal.swap-requires
swap-requires g c =
    let o = c.requires.out in (
      c.exchange-empty.ensures.0 ∙ c.requires.table ∙ sym (ap (λ l. l.table) c.lock.view_is),
      (let s = c.lock.invariant.0 in omega arith),
      releases g.V.Kept.entries g.V.Kept.kind _ _ _ c.exchange-empty.new.seat.me c.args.seat.now.me.0 c.args.value _ (2 * c.len.result) (let s = c.lock.invariant.1 in omega arith) c.exchange-empty.ensures.3
          (ap (λ n. 2 * n) (c.len.ensures ∙ ap length o.seen)) o.turn o.seen o.kinds,
    )
