-- Buffers with what their drawer knows of the display.
use Rattle.std.specs.Prelude.{◌≡◌, ℕ, Option, Some, None, if◌then◌else◌, ◌==◌}
use Rattle.frame.specs.Canvases.{Canvas}
use Rattle.flip.specs.declared.views.Drawing.{Drawing}
use Rattle.flip.specs.Indexes.{confirmed_by}
use Rattle.flip.specs.Drawers.{after_post}
use Rattle.multibuf.specs.declared.held.Held.{Held}
use Rattle.multibuf.specs.Held.{held_back_index, held_target, held_with_target, AreHeldEven}

-- their sides at the opening, what their drawer knows, how often drawing was begun and not ended,
-- how many switches were asked for, and the buffers themselves
pub record Buffering : Type 0 where
  pub width : ℕ
  pub height : ℕ
  pub drawer : Drawing
  pub count : ℕ
  pub switches : ℕ
  pub held : Held

-- all frames have the sides of the opening
abbrev pub IsEven : Buffering → Type 0
IsEven b = AreHeldEven b.width b.height b.held

-- the sides of the opening are the same
abbrev pub KeepsSides : Buffering → Buffering → Type 0
KeepsSides old new = (new.width ≡ old.width) × (new.height ≡ old.height)

-- the index of the buffer that is drawn on, of several
abbrev pub back_index : Buffering → Option ℕ
back_index b = held_back_index b.held

-- the frame to draw on
abbrev pub target_frame : Buffering → Canvas
target_frame b = held_target b.held

-- with another frame to draw on
abbrev pub with_target : Buffering → Canvas → Buffering
with_target b c = record b { held = held_with_target b.held c }

-- the buffer that an end posts: the one that is drawn on, where this ends the outermost begin
abbrev pub index_posted : Buffering → Option ℕ
index_posted b = if b.count == 1 then back_index b else None

-- what a drawer knows after a post that found this, if there was one
abbrev pub drawer_posted : Drawing → Option ℕ → Option ℕ → Drawing
drawer_posted d None found = d
drawer_posted d (Some k) found = after_post d found k

-- the buffer that this post found confirmed, if there was one
abbrev pub confirmed_in : Drawing → Option ℕ → Option ℕ → Option ℕ
confirmed_in d None found = None
confirmed_in d (Some k) found = confirmed_by d.waiting found
