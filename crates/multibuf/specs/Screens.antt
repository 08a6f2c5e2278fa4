-- The pictures of the buffers, without indexes: which one is shown, which one waits and under which
-- number, and which one is drawn on.
use Rattle.std.specs.Prelude.{◌≡◌, ℕ, ◌+◌, ◌-◌, Option, Some, None, if◌then◌else◌, ◌==◌, ◌&&◌, nat_le}
use Rattle.std.specs.Option.{option_map}
use Rattle.frame.specs.Pictures.{Picture}
use Rattle.multibuf.specs.declared.owners.Back.{Back}
use Rattle.multibuf.specs.declared.owners.Waiting.{Waiting}
use Rattle.multibuf.specs.declared.held.Held.{Held}
use Rattle.multibuf.specs.declared.held.Held.TheVariants.{One, More}
use Rattle.multibuf.specs.Held.{held_shown}
use Rattle.multibuf.specs.Buffering.{Buffering}

pub record Screen : Type 0 where
  pub shown : Picture
  pub waiting : Option (ℕ × Picture)
  pub back : Option Picture
  pub count : ℕ
  pub switches : ℕ

abbrev pub switch_of_waiting : Waiting → ℕ × Picture
switch_of_waiting w = (w.number, w.frame.picture)

abbrev pub picture_of_back : Back → Picture
picture_of_back b = b.frame.picture

abbrev pub waiting_switch : Held → Option (ℕ × Picture)
waiting_switch (One b) = None
waiting_switch (More s) = option_map switch_of_waiting s.waiting

abbrev pub back_picture : Held → Option Picture
back_picture (One b) = None
back_picture (More s) = option_map picture_of_back s.back

-- the pictures of these buffers. One buffer alone is shown, and none beside it is drawn on
abbrev pub screen_of : Buffering → Screen
screen_of b = record {
  shown = (held_shown b.held).picture;
  waiting = waiting_switch b.held;
  back = back_picture b.held;
  count = b.count;
  switches = b.switches;
}

-- the first picture, else the second, else the third
abbrev pub first_of : Option Picture → Option (ℕ × Picture) → Picture → Picture
first_of (Some b) w s = b
first_of None (Some w) s = w.1
first_of None None s = s

-- the picture that is drawn on, else the one that waits, else the one that is shown
abbrev pub latest : Screen → Picture
latest s = first_of s.back s.waiting s.shown

abbrev pub number_of_switch : ℕ × Picture → ℕ
number_of_switch w = w.0

-- the number of the switch that waits
abbrev pub number_waiting : Screen → Option ℕ
number_waiting s = option_map number_of_switch s.waiting

-- where this buffer was confirmed, the number of the switch that waits
abbrev pub number_confirmed : Option ℕ → Screen → Option ℕ
number_confirmed None s = None
number_confirmed (Some k) s = number_waiting s

-- drawing is begun on one of n buffers
abbrev pub after_begin : ℕ → Screen → Screen
after_begin n s = record s {
  count = s.count + 1;
  back = if s.count == 0 && nat_le 2 n then Some (latest s) else s.back;
}

-- the picture that the outermost end asks to be shown
abbrev pub picture_asked : Screen → Option Picture
picture_asked s = if s.count == 1 then s.back else None

abbrev pub switch_asked : Option Picture → Screen → Option (ℕ × Picture)
switch_asked None s = s.waiting
switch_asked (Some p) s = Some (s.switches + 1, p)

abbrev pub switches_asked : Option Picture → ℕ → ℕ
switches_asked None n = n
switches_asked (Some p) n = n + 1

-- drawing is ended: at the outermost end what is drawn on waits, under the next number
abbrev pub after_end : Screen → Screen
after_end s = record s {
  count = s.count - 1;
  waiting = switch_asked (picture_asked s) s;
  back = if s.count == 1 then None else s.back;
  switches = switches_asked (picture_asked s) s.switches;
}

abbrev pub picture_confirmed : Option ℕ → Option (ℕ × Picture) → Picture → Picture
picture_confirmed None w p = p
picture_confirmed (Some k) None p = p
picture_confirmed (Some k) (Some w) p = w.1

abbrev pub switch_left : Option ℕ → Option (ℕ × Picture) → Option (ℕ × Picture)
switch_left None w = w
switch_left (Some k) w = None

-- the switch of this number is confirmed, if there is one: the picture that waits is shown
abbrev pub after_mark : Option ℕ → Screen → Screen
after_mark k s = record s {
  shown = picture_confirmed k s.waiting s.shown;
  waiting = switch_left k s.waiting;
}

-- a switch of this number waits, if there is one
abbrev pub IsOfWaiting : Option ℕ → Screen → Type 0
IsOfWaiting None s = Unit {0}
IsOfWaiting (Some k) s = number_waiting s ≡ Some k

-- another picture is drawn on, of n buffers
abbrev pub after_draw : ℕ → Picture → Screen → Screen
after_draw n p s = record s {
  shown = if nat_le 2 n then s.shown else p;
  back = if nat_le 2 n then Some p else s.back;
}
