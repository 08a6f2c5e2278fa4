use Rattle.gui_core.proofs.HistoryLemmas.{tick_recorded, tick_fits}
use Rattle.gui_core.proofs.gui.Gui.tick.Goals as goal

pub enter_mark-requires : goal.enter_mark-requires
enter_mark-requires c = tick_fits c.self.inside.engine c.self.inside.history.items _ c.tick-shown.result c.self.invariant c.tick-shown.ensures.switch

pub invariant_of-self : goal.invariant_of-self
invariant_of-self c =
    rw (c.enter_mark.ensures.items, c.enter_mark.ensures.capacity)
    (tick_recorded c.self.inside.engine c.tick-shown.new.self c.self.inside.history.items _ c.tick-shown.result c.self.invariant c.tick-shown.ensures.switch c.tick-shown.ensures.shown)
