use Rattle.std.proofs.Common.{◌≡◌, false, sym, subst}
use Rattle.std.specs.Prelude.{vec_capacity}
use Rattle.gui_core.specs.contracts.gui.Gui.{the_view}
use Rattle.gui_core.specs.Histories.{Core, is_full}
use Rattle.gui_core.proofs.HistoryLemmas.{MadeIn, has_room, make_fits_mark, make_fits, make_recorded, make_records}
use Rattle.gui_core.proofs.gui.Gui.make.Goals as goal

pub enter_mark-requires : goal.enter_mark-requires
enter_mark-requires c =
    let made : MadeIn c.self.inside.engine c.self.inside.history.items (vec_capacity c.self.inside.history) c.args.actor c.args.call.now c.apply.new.self c.take_mark-found.new.self c.in_ok-reply.reply = record {
      core = c.self.invariant;
      few = has_room (the_view c.self.inside).chronicle (subst (λ (k : Core). is_full k.chronicle ≡ false) (sym c.self.view_is) c.requires.room);
      fit = c.requires.fits;
      finds = c.in_ok-reply.ensures.finds;
      counts = c.in_ok-reply.ensures.made;
      taken = c.take_mark-found.ensures.rest;
    } in
    rw (c.take_mark-found.ensures.mark) (make_fits_mark c.self.inside.engine c.self.inside.history.items (vec_capacity c.self.inside.history) c.args.actor c.args.call.now c.apply.new.self c.take_mark-found.new.self c.in_ok-reply.reply made)

pub enter-requires : goal.enter-requires
enter-requires c =
    let made : MadeIn c.self.inside.engine c.self.inside.history.items (vec_capacity c.self.inside.history) c.args.actor c.args.call.now c.apply.new.self c.take_mark-found.new.self c.in_ok-reply.reply = record {
      core = c.self.invariant;
      few = has_room (the_view c.self.inside).chronicle (subst (λ (k : Core). is_full k.chronicle ≡ false) (sym c.self.view_is) c.requires.room);
      fit = c.requires.fits;
      finds = c.in_ok-reply.ensures.finds;
      counts = c.in_ok-reply.ensures.made;
      taken = c.take_mark-found.ensures.rest;
    } in
    rw (c.enter_mark.ensures.items, c.enter_mark.ensures.capacity, c.take_mark-found.ensures.mark) (make_fits c.self.inside.engine c.self.inside.history.items (vec_capacity c.self.inside.history) c.args.actor c.args.call.now c.apply.new.self c.take_mark-found.new.self c.in_ok-reply.reply made)

pub invariant_of-self-2 : goal.invariant_of-self-2
invariant_of-self-2 c =
    let made : MadeIn c.self.inside.engine c.self.inside.history.items (vec_capacity c.self.inside.history) c.args.actor c.args.call.now c.apply.new.self c.take_mark-found.new.self c.in_ok-reply.reply = record {
      core = c.self.invariant;
      few = has_room (the_view c.self.inside).chronicle (subst (λ (k : Core). is_full k.chronicle ≡ false) (sym c.self.view_is) c.requires.room);
      fit = c.requires.fits;
      finds = c.in_ok-reply.ensures.finds;
      counts = c.in_ok-reply.ensures.made;
      taken = c.take_mark-found.ensures.rest;
    } in
    rw (c.enter.ensures.items, c.enter.ensures.capacity, c.enter_mark.ensures.items, c.enter_mark.ensures.capacity, c.take_mark-found.ensures.mark, c.copy.ensures) (make_recorded c.self.inside.engine c.self.inside.history.items (vec_capacity c.self.inside.history) c.args.actor c.args.call.now c.apply.new.self c.take_mark-found.new.self c.in_ok-reply.reply made)

pub returns-clause-made : goal.returns-clause-made
returns-clause-made c =
    let made : MadeIn c.self.inside.engine c.self.inside.history.items (vec_capacity c.self.inside.history) c.args.actor c.args.call.now c.apply.new.self c.take_mark-found.new.self c.in_ok-reply.reply = record {
      core = c.self.invariant;
      few = has_room (the_view c.self.inside).chronicle (subst (λ (k : Core). is_full k.chronicle ≡ false) (sym c.self.view_is) c.requires.room);
      fit = c.requires.fits;
      finds = c.in_ok-reply.ensures.finds;
      counts = c.in_ok-reply.ensures.made;
      taken = c.take_mark-found.ensures.rest;
    } in
    rw (c.enter.ensures.items, c.enter_mark.ensures.items, c.take_mark-found.ensures.mark, c.copy.ensures, ← c.self.view_is) (make_records c.self.inside.engine c.self.inside.history.items (vec_capacity c.self.inside.history) c.args.actor c.args.call.now c.apply.new.self c.take_mark-found.new.self c.in_ok-reply.reply made)
