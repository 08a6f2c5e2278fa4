-- One buffer, which is drawn on and shown, or several.
use Rattle.std.specs.Prelude.{ℕ, Option, None, IsSome}
use Rattle.std.specs.Option.{option_map}
use Rattle.frame.specs.Canvases.{Canvas}
use Rattle.multibuf.specs.declared.held.Held.{Held}
use Rattle.multibuf.specs.declared.held.Held.TheVariants.{One, More}
use Rattle.multibuf.specs.Owners.{index_of_back, frame_of_waiting, number_of, HasSides}
use Rattle.multibuf.specs.Parts.{several_after_confirm, several_after_ask, several_after_begin, drawn_on, with_frame, with_drawn, AreEven}

-- after what waits is shown
abbrev pub held_after_confirm : Held → Held
held_after_confirm (One b) = One b
held_after_confirm (More s) = More (several_after_confirm s)

-- after what is drawn on waits under a number
abbrev pub held_after_ask : Held → ℕ → Held
held_after_ask (One b) n = One b
held_after_ask (More s) n = More (several_after_ask s n)

-- after the least free one is drawn on
abbrev pub held_after_begin : Held → Held
held_after_begin (One b) = One b
held_after_begin (More s) = More (several_after_begin s)

-- the number of the switch that waits
abbrev pub held_number : Held → Option ℕ
held_number (One b) = None
held_number (More s) = option_map number_of s.waiting

-- the index of the buffer that is drawn on, of several
abbrev pub held_back_index : Held → Option ℕ
held_back_index (One b) = None
held_back_index (More s) = option_map index_of_back s.back

-- the frame that is shown
abbrev pub held_shown : Held → Canvas
held_shown (One b) = b.frame
held_shown (More s) = s.shown.frame

-- the frame that waits
abbrev pub held_waiting : Held → Option Canvas
held_waiting (One b) = None
held_waiting (More s) = option_map frame_of_waiting s.waiting

-- the frame to draw on
abbrev pub held_target : Held → Canvas
held_target (One b) = b.frame
held_target (More s) = drawn_on s.back

-- with another frame to draw on
abbrev pub held_with_target : Held → Canvas → Held
held_with_target (One b) c = One (with_frame c b)
held_with_target (More s) c = More (record s { back = with_drawn c s.back })

-- one can be drawn on from now on
abbrev pub HasFree : Held → Type 0
HasFree (One b) = Unit {0}
HasFree (More s) = IsSome s.stock.low

-- one is drawn on
abbrev pub HasTarget : Held → Type 0
HasTarget (One b) = Unit {0}
HasTarget (More s) = IsSome s.back

-- all frames have these sides
abbrev pub AreHeldEven : ℕ → ℕ → Held → Type 0
AreHeldEven w h (One b) = HasSides w h b.frame
AreHeldEven w h (More s) = AreEven w h s
