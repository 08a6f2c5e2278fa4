-- Buffers at their start.
use Rattle.std.specs.Prelude.{◌≡◌, ℕ, ◌*◌, ◌<◌, Bool, Some, None, replicate, if◌then◌else◌, ◌==◌}
use Rattle.frame.specs.Canvases.{Canvas, canvas}
use Rattle.flip.specs.Drawers.{new_drawing}
use Rattle.multibuf.specs.declared.owners.Free.{Free}
use Rattle.multibuf.specs.declared.held.Held.{Held}
use Rattle.multibuf.specs.declared.held.Held.TheVariants.{One, More}
use Rattle.multibuf.specs.Buffering.{Buffering, IsEven}
use Rattle.multibuf.specs.Frames.{frame_at}
use Rattle.multibuf.specs.Screens.{Screen, screen_of}

-- a black frame to which no point was written
abbrev pub blank : ℕ → ℕ → Canvas
blank w h = canvas w h (replicate (h * w) 0) 0

-- the black picture is shown, none waits, and drawing isn't begun
abbrev pub black_screen : ℕ → ℕ → Screen
black_screen w h = record {
  shown = (blank w h).picture;
  waiting = None;
  back = None;
  count = 0;
  switches = 0;
}

-- n black buffers of these sides, with a drawer that is alone or isn't
pub record IsNew (alone : Bool) (w h n : ℕ) (b : Buffering) : Type 0 where
  pub width : b.width ≡ w
  pub height : b.height ≡ h
  pub drawer : b.drawer ≡ new_drawing alone n
  pub screen : screen_of b ≡ black_screen w h
  pub frames : (k : ℕ) → k < n → frame_at b k ≡ Some (blank w h)
  pub even : IsEven b

abbrev pub new_free : ℕ → ℕ → ℕ → Free
new_free w h k = record { frame = blank w h; index = k }

-- n buffers, of which the first is shown
abbrev pub new_held : ℕ → ℕ → ℕ → Held
new_held w h n =
    if n == 1 then One (record { frame = blank w h; index = 0 })
    else More (record {
      shown = record { frame = blank w h; index = 0 };
      waiting = None;
      back = None;
      stock = record {
        low = Some (new_free w h 1);
        high = if n == 2 then None else Some (new_free w h 2);
      };
    })
