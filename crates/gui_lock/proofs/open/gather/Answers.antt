use Rattle.std.proofs.Common.{sym, ap, ◌∙◌, arith}
use Rattle.gui_lock.proofs.StepsKeepRule.{settles}
use Rattle.gui_lock.proofs.SeatsKeepRule.{joins}
use Rattle.gui_lock.proofs.open.gather.Goals as goal

pub join_seat-requires : goal.join_seat-requires
join_seat-requires g c =
    let here = sym (ap (λ l. l.table) c.lock.view_is) in (
      c.requires.table ∙ here,
      c.requires.other_table ∙ here,
      c.requires.other_free.1,
      (let s = c.lock.invariant.0 in omega arith),
      joins g.V.Kept.entries g.V.Kept.kind _ _ c.args.seat.now.me.0 _ c.args.other.me.0 c.requires.free c.requires.other_free.0,
    )

pub load-requires : goal.load-requires
load-requires g c = (c.join_seat.ensures.0 ∙ (c.requires.table ∙ sym (ap (λ l. l.table) c.lock.view_is)), (let s = c.lock.invariant.0 in omega arith), settles g.V.Kept.entries g.V.Kept.kind _ _ _ c.join_seat.new.seat.me)
