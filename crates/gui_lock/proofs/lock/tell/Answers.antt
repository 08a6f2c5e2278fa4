use Rattle.std.proofs.Common.{◌*◌, ◌+◌, length, sym, ap, ◌∙◌, arith}
use Rattle.gui_lock.proofs.StepsKeepRule.{tells}
use Rattle.gui_lock.proofs.lock.tell.Goals as goal

pub swap-requires : goal.swap-requires
swap-requires g c =
    let r = c.requires.more in (
      c.requires.table ∙ sym (ap (λ l. l.table) c.lock.view_is),
      (let s = c.lock.invariant.0 in omega arith),
      tells g.V.Kept.entries g.V.Kept.kind _ _ _ c.args.seat.now.me _ _ r.0 (ap (λ n. 2 * n + 1) (c.len-len.ensures ∙ ap length (sym c.requires.list))) c.requires.turn (c.requires.list ∙ r.1) r.2,
    )
