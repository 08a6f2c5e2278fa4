-- The frames at the buffers' indexes, and what stays of them.
use Rattle.std.specs.Prelude.{◌≡◌, ◌⊎◌, ◌≤◌, ℕ, Option, Some, None, if◌then◌else◌, ◌==◌, MatchOption}
use Rattle.frame.specs.Canvases.{Canvas}
use Rattle.flip.specs.declared.views.Drawing.{Drawing}
use Rattle.multibuf.specs.declared.owners.Free.{Free}
use Rattle.multibuf.specs.declared.owners.Back.{Back}
use Rattle.multibuf.specs.declared.owners.Waiting.{Waiting}
use Rattle.multibuf.specs.declared.held.Held.{Held}
use Rattle.multibuf.specs.declared.held.Held.TheVariants.{One, More}
use Rattle.multibuf.specs.Held.{held_shown, held_waiting}
use Rattle.multibuf.specs.Buffering.{Buffering}

-- the first, or else the second
abbrev pub or_else : Option Canvas → Option Canvas → Option Canvas
or_else None o = o
or_else (Some c) o = Some c

abbrev pub at_index : Canvas → ℕ → ℕ → Option Canvas
at_index c i k = if i == k then Some c else None

abbrev pub at_waiting : Option Waiting → ℕ → Option Canvas
at_waiting None k = None
at_waiting (Some w) k = at_index w.frame w.index k

abbrev pub at_back : Option Back → ℕ → Option Canvas
at_back None k = None
at_back (Some b) k = at_index b.frame b.index k

abbrev pub at_free : Option Free → ℕ → Option Canvas
at_free None k = None
at_free (Some f) k = at_index f.frame f.index k

abbrev pub held_frame : Held → ℕ → Option Canvas
held_frame (One b) k = at_index b.frame b.index k
held_frame (More s) k =
    or_else (at_index s.shown.frame s.shown.index k)
    (or_else (at_waiting s.waiting k)
    (or_else (at_back s.back k) (or_else (at_free s.stock.low k) (at_free s.stock.high k))))

-- the frame at an index
abbrev pub frame_at : Buffering → ℕ → Option Canvas
frame_at b = held_frame b.held

-- the frame that is shown
abbrev pub shown_frame : Buffering → Canvas
shown_frame b = held_shown b.held

-- the frame that waits
abbrev pub waiting_frame : Buffering → Option Canvas
waiting_frame b = held_waiting b.held

-- each frame is as it was, with its count of writes
abbrev pub KeepsFrames : Buffering → Buffering → Type 0
KeepsFrames old new = (k : ℕ) → frame_at new k ≡ frame_at old k

-- the drawer knows the buffer as shown or to wait
abbrev pub IsKnown : Drawing → ℕ → Type 0
IsKnown d k = (k ≡ d.shown) ⊎ (d.waiting ≡ Some k)

-- of several buffers the frames of those that the drawer knew as shown or to wait are as they were
abbrev pub KeepsKnown : Buffering → Buffering → Type 0
KeepsKnown old new =
    2 ≤ old.drawer.buffers → (k : ℕ) → IsKnown old.drawer k → frame_at new k ≡ frame_at old k

-- at this index is the frame that is shown, or the one that waits
abbrev pub IsShownOrWaits : Buffering → ℕ → Type 0
IsShownOrWaits b k =
    MatchOption (waiting_frame b) (frame_at b k ≡ Some (shown_frame b))
    (λ c. (frame_at b k ≡ Some (shown_frame b)) ⊎ (frame_at b k ≡ Some c))
