-- What the two sides of a display hold.
use Rattle.std.specs.Prelude.{◌≡◌, ◌≤◌, []}
use Rattle.std.specs.Arc.{arc_value}
use Rattle.flip.specs.declared.views.View.TheVariants.{Draws, Shows}
use Rattle.flip.specs.declared.drawer.Drawer.TheInside.{Inside as Drawer}
use Rattle.flip.specs.declared.controller.Controller.TheInside.{Inside as Controller}
use Rattle.flip.specs.Drawers.{IsConsistent}
use Rattle.flip.specs.Views.{drawing_of, showing_of}

-- the drawer's seat is at its word and has a drawer's view, and the numbers at hand are the view's
pub record IsDrawer (d : Drawer) : Type 0 where
  pub one_word : (arc_value d.word).shared.table_id.words ≡ 1
  pub own_word : d.seat.table_id ≡ (arc_value d.word).shared.table_id
  pub view : d.seat.me ≡ (Draws (drawing_of d.seat.me.0), [])
  pub buffers : (drawing_of d.seat.me.0).buffers ≡ d.buffers
  pub shown : (drawing_of d.seat.me.0).shown ≡ d.shown
  pub waiting : (drawing_of d.seat.me.0).waiting ≡ d.waiting
  pub consistent : IsConsistent (drawing_of d.seat.me.0)

-- the same for a controller
pub record IsController (c : Controller) : Type 0 where
  pub one_word : (arc_value c.word).shared.table_id.words ≡ 1
  pub own_word : c.seat.table_id ≡ (arc_value c.word).shared.table_id
  pub view : c.seat.me ≡ (Shows (showing_of c.seat.me.0), [])
  pub shown : (showing_of c.seat.me.0).shown ≡ c.shown
  pub few : (showing_of c.seat.me.0).buffers ≤ 3
