-- Calls that change the list of windows, which stand from back to front, and what each of them
-- makes invalid.
use Rattle.std.specs.Prelude.{ℕ, ℤ, ◌+ℤ◌, Bool, ◌&&◌, ◌==◌, if◌then◌else◌, List, [], ◌∷◌, ◌++◌, slice_set, Option, Some, None, option_map, unwrap_or}
use Rattle.std.specs.Cmp.Lexicographic.{pointwise}
use Rattle.std.proofs.Math.Bool.{beq}
use Rattle.std.specs.Int.{w16, saturate_signed}
use Rattle.std.specs.Ordering.{int_eq}
use Rattle.gfx_base.specs.declared.rect.Rect.{Rect}
use Rattle.paint_ops.specs.Kinds.{Assets}
use Rattle.scene.specs.declared.win.Win.{Win}
use Rattle.scene.specs.Places.{window_of}
use Rattle.scene.specs.Clips.{clip_in}
use Rattle.scene.specs.Damage.{area_invalidated, areas_invalidated, invalidated}
use Rattle.scene.specs.Families.{window_changed, moved_to}
use Rattle.invalidate.specs.Invalidation.{wholly_invalidated, on_screen}
use Rattle.messages.specs.Delivery.{with_new_values, delivered}

-- ---- one window

-- a sum that stops at the ends of 16 bits
abbrev pub stopped : ℤ → ℤ
stopped z = saturate_signed w16 z

abbrev pub moved_by : ℤ → ℤ → Win → Win
moved_by dx dy w = moved_to (stopped (w.x +ℤ dx)) (stopped (w.y +ℤ dy)) w

abbrev pub with_class : ℕ → Win → Win
with_class class w = record w { class = class }

abbrev pub with_trans : Bool → Win → Win
with_trans trans w = record w { trans = trans }

abbrev pub with_memdev : Bool → Win → Win
with_memdev memdev w = record w { memdev = memdev }

-- ---- what is as it was

-- whether the second window is the first one in the same place of its parent, of the same sides and
-- class, and shown or hidden, and seen through or not, as before
abbrev pub is_as_it_was : Win → Win → Bool
is_as_it_was w v =
    (w.handle == v.handle && w.class == v.class) && (int_eq w.x v.x && int_eq w.y v.y)
    && (((w.w == v.w && w.h == v.h) && beq w.shown v.shown) && beq w.trans v.trans)

-- whether the list is as it was
abbrev pub are_as_they_were : List Win → List Win → Bool
are_as_they_were ws now = pointwise is_as_it_was ws now

-- ---- what is invalid then

-- the clip of the window that has the handle, if there is one
abbrev pub clip_at : Rect → List Win → ℕ → Option Rect
clip_at screen ws h = option_map (clip_in screen ws) (window_of ws h)

-- the one of an option, or none
abbrev pub listed : Option Rect → List Rect
listed None = []
listed (Some r) = r ∷ []

-- The list after a call on the window that has the handle, which was the first list and is the
-- second: in each window is invalid where that window was, and where it is now. Nothing is, where
-- the list is as it was.
abbrev pub after_change : Rect → ℕ → List Win → List Win → List Win
after_change screen h ws now =
    if are_as_they_were ws now then now
    else areas_invalidated (clip_in screen now)
    (listed (clip_at screen ws h) ++ listed (clip_at screen now h)) now

-- the list with all of a window invalid
abbrev pub with_invalid_window : Rect → ℕ → List Win → List Win
with_invalid_window screen h ws = window_changed h (wholly_invalidated screen ws) ws

-- the list with a rectangle of a window invalid, which is told from the window's corner
abbrev pub with_invalid_rect : Rect → ℕ → Rect → List Win → List Win
with_invalid_rect screen h local ws =
    window_changed h (λ w. invalidated (clip_in screen ws w) (on_screen ws w local) w) ws

-- the list with an area of the screen invalid in each window
abbrev pub with_invalid_area : Rect → Rect → List Win → List Win
with_invalid_area screen area ws = area_invalidated (clip_in screen ws) area ws

-- the list with one of a window's values another number; where it differs from before, all of the
-- window is invalid
abbrev pub with_value : Rect → ℕ → ℕ → ℤ → List Win → List Win
with_value screen h index value ws =
    window_changed h (λ w. with_new_values screen ws (slice_set w.values index value) w) ws

-- the list after a message to the window that has the handle
abbrev pub with_message : Assets → Rect → ℕ → ℕ → ℤ → List Win → List Win
with_message assets screen h message argument ws =
    unwrap_or
    (option_map (λ w. delivered assets screen message argument w ws) (window_of ws h)) ws
