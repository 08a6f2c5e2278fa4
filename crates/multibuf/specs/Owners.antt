-- The owners of a buffer, and how a buffer goes from one to another.
use Rattle.std.specs.Prelude.{◌≡◌, ℕ, ◌+◌, ◌*◌, ◌%◌, ◌^◌}
use Rattle.frame.specs.Pictures.{Picture}
use Rattle.frame.specs.Canvases.{Canvas}
use Rattle.multibuf.specs.declared.owners.Free.{Free}
use Rattle.multibuf.specs.declared.owners.Back.{Back}
use Rattle.multibuf.specs.declared.owners.Waiting.{Waiting}
use Rattle.multibuf.specs.declared.owners.Shown.{Shown}

-- a frame onto which a whole picture of its sides was copied: each point was written once
abbrev pub copied : Picture → Canvas → Canvas
copied p to = record { picture = p; writes = (to.writes + p.height * p.width) % 2 ^ 64 }

-- a frame has these sides
abbrev pub HasSides : ℕ → ℕ → Canvas → Type 0
HasSides w h c = (c.picture.width ≡ w) × (c.picture.height ≡ h)

abbrev pub index_of_free : Free → ℕ
index_of_free f = f.index

abbrev pub index_of_back : Back → ℕ
index_of_back b = b.index

abbrev pub index_of_waiting : Waiting → ℕ
index_of_waiting w = w.index

abbrev pub frame_of_waiting : Waiting → Canvas
frame_of_waiting w = w.frame

abbrev pub number_of : Waiting → ℕ
number_of w = w.number

-- a buffer that was free, as it is drawn on
abbrev pub back_of_free : Free → Back
back_of_free f = record { frame = f.frame; index = f.index }

-- a buffer that was drawn on, as it waits
abbrev pub waiting_of_back : Back → ℕ → Waiting
waiting_of_back b n = record { frame = b.frame; index = b.index; number = n }

-- a buffer that waited, as it is shown
abbrev pub shown_of_waiting : Waiting → Shown
shown_of_waiting w = record { frame = w.frame; index = w.index }

-- a buffer that waited, as it is free
abbrev pub free_of_waiting : Waiting → Free
free_of_waiting w = record { frame = w.frame; index = w.index }

-- a buffer that was shown, as it is free
abbrev pub free_of_shown : Shown → Free
free_of_shown s = record { frame = s.frame; index = s.index }
