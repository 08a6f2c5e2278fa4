use Rattle.std.proofs.Common.{sym, ap, ◌∙◌, arith}
use Rattle.gui_lock.proofs.StepsKeepRule.{settles}
use Rattle.gui_lock.proofs.SeatsKeepRule.{notes, joins}
use Rattle.gui_lock.proofs.lock.hear.Goals as goal

pub split_seat-note-requires : goal.split_seat-note-requires
split_seat-note-requires g c = (c.requires.other_table ∙ sym (ap (λ l. l.table) c.lock.view_is), (let s = c.lock.invariant.0 in omega arith), notes g.V.Kept.entries g.V.Kept.kind _ _ c.args.other.now.me.0)

pub join_seat-requires : goal.join_seat-requires
join_seat-requires g c =
    let here = sym (ap (λ l. l.table) c.lock.view_is) in (
      c.requires.table ∙ here,
      c.split_seat-note.ensures.3 ∙ (c.requires.other_table ∙ here),
      ap (λ m. m.1) c.split_seat-note.ensures.4,
      (let s = c.lock.invariant.0 in omega arith),
      joins g.V.Kept.entries g.V.Kept.kind _ _ c.args.seat.now.me.0 _ c.split_seat-note.result.me.0 c.requires.free (ap (λ m. m.0.turns) c.split_seat-note.ensures.4),
    )

pub load-requires : goal.load-requires
load-requires g c = (c.join_seat.ensures.0 ∙ (c.requires.table ∙ sym (ap (λ l. l.table) c.lock.view_is)), (let s = c.lock.invariant.0 in omega arith), settles g.V.Kept.entries g.V.Kept.kind _ _ _ c.join_seat.new.seat.me)
