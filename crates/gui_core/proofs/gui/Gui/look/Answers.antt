use Rattle.gui_core.proofs.HistoryLemmas.{fits_shown, look_recorded, look_looked}
use Rattle.gui_core.proofs.gui.Gui.look.Goals as goal

pub enter_mark-requires : goal.enter_mark-requires
enter_mark-requires c = fits_shown c.self.inside.engine c.self.inside.history.items _ c.look-seen.result c.self.invariant.recorded c.look-seen.ensures.looked.waits

pub invariant_of-self : goal.invariant_of-self
invariant_of-self c =
    rw (c.enter_mark.ensures.items, c.enter_mark.ensures.capacity)
    (look_recorded c.self.inside.engine c.look-seen.new.self c.self.inside.history.items _ c.look-seen.result c.self.invariant c.look-seen.ensures.looked c.look-seen.ensures.rest)

pub returns : goal.returns
returns c =
    rw (c.enter_mark.ensures.items, ← c.self.view_is)
    (look_looked c.self.inside.engine c.look-seen.new.self c.self.inside.history.items _ c.look-seen.result c.self.invariant c.look-seen.ensures.looked c.look-seen.ensures.rest)
