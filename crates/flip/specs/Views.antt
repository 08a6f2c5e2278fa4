-- The two kinds of view that seats at a display's word have.
use Rattle.std.specs.Prelude.{true, false, None}
use Rattle.flip.specs.declared.views.Drawing.{Drawing}
use Rattle.flip.specs.declared.views.Showing.{Showing}
use Rattle.flip.specs.declared.views.View.{View}
use Rattle.flip.specs.declared.views.View.TheVariants.{Draws, Shows}
use Rattle.flip.specs.Drawers.{new_drawing}
use Rattle.flip.specs.Controllers.{new_showing}

-- a drawer's view
abbrev pub drawing_of : View → Drawing
drawing_of (Draws d) = d
drawing_of (Shows c) = new_drawing true 1

-- a controller's view
abbrev pub showing_of : View → Showing
showing_of (Draws d) = new_showing 1
showing_of (Shows c) = c

-- what a drawer keeps where it is parted from its controller
abbrev pub parted : View → View
parted (Draws d) = Draws (record d { alone = false })
parted (Shows c) = Shows c

-- the controller that is parted from a drawer
abbrev pub partner : View → View
partner (Draws d) = Shows (record { buffers = d.buffers; shown = d.shown; steps = 0; found = None })
partner (Shows c) = Shows c
