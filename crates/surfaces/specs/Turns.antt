-- Drawing on the screen's buffers. A call that draws where none has begun begins before it and ends
-- after it, so what it draws is shown as a whole.
use Rattle.std.specs.Prelude.{ℕ, Bool, false, ◌==◌, ◌&&◌, if◌then◌else◌, List, [], ◌∷◌, Some, None, ◌≡◌, nat_le, Option}
use Rattle.std.specs.Option.{option_map_or}
use Rattle.frame.specs.Pictures.{Picture}
use Rattle.multibuf.specs.Screens.{Screen, number_waiting, after_begin, after_end, after_mark, after_draw}
use Rattle.calls.specs.declared.reply.Refusal.TheVariants.{NotOpen, OpenDepth, Waiting}
use Rattle.desk.specs.Desks.{Objection}

-- that picture is shown, none waits, and drawing isn't begun
abbrev pub showing : Picture → Screen
showing p = record { shown = p; waiting = None; back = None; count = 0; switches = 0 }

-- a call drew that picture, of n buffers
abbrev pub after_turn : ℕ → Picture → Screen → Screen
after_turn n p s =
    if s.count == 0 then after_end (after_draw n p (after_begin n s)) else after_draw n p s

-- the switch of this number waits
abbrev pub waits : ℕ → Screen → Bool
waits k s = option_map_or (λ j. j == k) (number_waiting s) false

-- the switch of this number was made, if it waits
abbrev pub marked : ℕ → Screen → Screen
marked k s = if waits k s then after_mark (Some k) s else s

-- of two buffers none is free while a switch waits
abbrev pub none_free : ℕ → Screen → List Objection
none_free n s =
    option_map_or (λ k. (n == 2 && s.count == 0, Waiting k) ∷ []) (number_waiting s) []

-- what may be held against a begin
abbrev pub begin_objections : ℕ → Screen → List Objection
begin_objections n s = (s.count == 100, OpenDepth) ∷ none_free n s

-- what may be held against an end
abbrev pub end_objections : Screen → List Objection
end_objections s = (s.count == 0, NotOpen) ∷ []

-- What is true of the pictures of n buffers: of one alone none waits, and none is drawn on beside
-- it; and none is drawn on where drawing isn't begun.
pub record IsScreen (n : ℕ) (s : Screen) : Type 0 where
  pub alone : nat_le 2 n ≡ false → (s.waiting ≡ None) × (s.back ≡ None)
  pub ended : s.count ≡ 0 → s.back ≡ None

-- 1 where a switch waits
abbrev pub waiting_count : Option ℕ → ℕ
waiting_count None = 0
waiting_count (Some k) = 1
