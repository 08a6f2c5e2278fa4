-- The buffers and the devices, as calls draw on them.
use Rattle.std.specs.Prelude.{◌≡◌, ◌≢◌, ◌⊎◌, ℕ, Bool, ◌==◌, if◌then◌else◌, List, [], ◌++◌, Option, Some, None, Result, Ok, Err, IsTrue, IfSome}
use Rattle.frame.specs.Pictures.{Picture, picture_of}
use Rattle.frame.specs.Canvases.{Canvas}
use Rattle.context.specs.declared.context.Context.{Context}
use Rattle.paint_ops.specs.Kinds.{Assets}
use Rattle.scene.specs.declared.win.Win.{Win}
use Rattle.scene.specs.Painting.{Looks}
use Rattle.scene.specs.Looks.{screen_with, looks_of}
use Rattle.flip.specs.declared.views.Drawing.{Drawing}
use Rattle.flip.specs.Indexes.{confirmed_by}
use Rattle.flip.specs.Drawers.{new_drawing, after_look}
use Rattle.flip.specs.Display.{IsDisplay}
use Rattle.multibuf.specs.Buffering.{Buffering, IsEven, drawer_posted, confirmed_in}
use Rattle.multibuf.specs.Screens.{Screen, latest, number_confirmed, after_begin, after_end, after_mark, after_draw, IsOfWaiting}
use Rattle.calls.specs.declared.reply.Refusal.{Refusal}
use Rattle.desk.specs.Devices.{DevicePictures, no_device_pictures}
use Rattle.desk.specs.Drawing.{Work, Surfaces, is_on_screen, surfaces_after}
use Rattle.desk.specs.Desks.{Objection, refusal_of, work_objections}
use Rattle.surfaces.specs.Turns.{showing, after_turn, none_free}

-- what their drawer knows of the display, the buffers' sides and pictures, the devices, and the
-- number of the switch that the last end found confirmed, if it found one
pub record Panes : Type 0 where
  pub drawer : Drawing
  pub width : ℕ
  pub height : ℕ
  pub screen : Screen
  pub devices : DevicePictures
  pub marked : Option ℕ

-- black buffers, and no device
abbrev pub panes_for : Bool → ℕ → ℕ → ℕ → Panes
panes_for alone w h n = record {
  drawer = new_drawing alone n;
  width = w;
  height = h;
  screen = showing (picture_of w h (λ x y. 0));
  devices = no_device_pictures;
  marked = None;
}

-- what calls see of them
abbrev pub surfaces_of : Panes → Surfaces
surfaces_of p = record { picture = latest p.screen; devices = p.devices }

-- how windows look on them
abbrev pub looks_on : Assets → List Win → Panes → Looks
looks_on assets ws p = looks_of assets (screen_with p.width p.height) ws

-- drawing was begun, or there is one buffer
abbrev pub IsBegun : ℕ → Screen → Type 0
IsBegun n s = (s.count ≢ 0) ⊎ (n ≡ 1)

-- that picture is drawn, where drawing was begun
abbrev pub with_drawn : Panes → Picture → Panes
with_drawn p q = record p { screen = after_draw p.drawer.buffers q p.screen }

-- a call drew that picture
abbrev pub with_turn : Panes → Picture → Panes
with_turn p q = record p { screen = after_turn p.drawer.buffers q p.screen }

-- after work
abbrev pub panes_after : Assets → List Win → Context → Work → Panes → Panes
panes_after assets ws c work p =
    let now = surfaces_after assets (looks_on assets ws p) ws c work (surfaces_of p) in
    record p {
      screen =
          if is_on_screen c work then after_turn p.drawer.buffers now.picture p.screen
          else p.screen;
      devices = now.devices;
    }

-- what may be held against work
abbrev pub pane_objections : Assets → List Win → Context → Work → Panes → List Objection
pane_objections assets ws c work p =
    work_objections assets ws p.devices.live c work
    ++ (if is_on_screen c work then none_free p.drawer.buffers p.screen else [])

-- ---- begin and end

-- the screen where a call that draws has begun, if none had
abbrev pub begun : ℕ → Screen → Screen
begun n s = if s.count == 0 then after_begin n s else s

-- the screen where it has ended what it began
abbrev pub ended : Bool → Screen → Screen
ended own s = if own then after_end s else s

-- A call that draws begins, if none has, and tells whether it did; or it is refused.
abbrev pub Begins : Result Bool Refusal → ℕ → Screen → Screen → Type 0
Begins (Ok own) n old new =
    (refusal_of (none_free n old) ≡ None) × (own ≡ (old.count == 0)) × (new ≡ begun n old)
Begins (Err refusal) n old new = (refusal_of (none_free n old) ≡ Some refusal) × (new ≡ old)

-- ---- the display

-- the panes after a call that found a switch confirmed, or none, as it found them, with the mark of
-- that switch: the one that the later panes name
abbrev pub switched : Panes → Panes → Panes
switched new old = record old {
  drawer = new.drawer;
  screen = after_mark new.marked old.screen;
  marked = new.marked;
}

-- What a call finds out of the display that drew on this screen: the drawer posted a buffer or
-- none, and where it posted one it may have found the switch confirmed that waited.
pub record Finds (d : Drawing) (s : Screen) (e : Drawing) (mark : Option ℕ) : Type 0 where
  pub posted : Option ℕ
  pub drawer : e ≡ drawer_posted d posted e.found
  pub display : IfSome posted (λ _. (shown : ℕ) × IsDisplay d shown e.found)
  pub number : mark ≡ number_confirmed (confirmed_in d posted e.found) s
  pub waits : IsOfWaiting mark s
  pub alone : IsTrue d.alone → mark ≡ None

-- A look at the display: the switch that waited is confirmed where nothing waits there any more.
pub record LooksAt (old new : Panes) (mark : Option ℕ) : Type 0 where
  pub drawer : new.drawer ≡ after_look old.drawer new.drawer.found
  pub display : (shown : ℕ) × IsDisplay old.drawer shown new.drawer.found
  pub number : mark ≡
      number_confirmed (confirmed_by old.drawer.waiting new.drawer.found) old.screen
  pub waits : IsOfWaiting mark old.screen
  pub alone : IsTrue old.drawer.alone → mark ≡ None
  pub rest : new ≡ record old { drawer = new.drawer; screen = after_mark mark old.screen }

-- What is true of the frames: they all have the same sides.
pub record AreFit (b : Buffering) (composed : Canvas) : Type 0 where
  pub even : IsEven b
  pub width : composed.picture.width ≡ b.width
  pub height : composed.picture.height ≡ b.height
