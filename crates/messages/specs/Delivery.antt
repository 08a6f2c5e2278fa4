-- What a message to a window makes of the windows, which stand from back to front.
use Rattle.std.specs.Prelude.{ℕ, zero, suc, if◌then◌else◌, ℤ, List, [], ◌∷◌, Option, None, option_map, unwrap_or}
use Rattle.std.specs.Cmp.Lexicographic.{pointwise}
use Rattle.std.specs.Ordering.{int_eq}
use Rattle.gfx_base.specs.declared.rect.Rect.{Rect}
use Rattle.paint_ops.specs.declared.class.React.{React}
use Rattle.paint_ops.specs.Kinds.{Assets}
use Rattle.scene.specs.declared.win.Win.{Win}
use Rattle.scene.specs.Places.{window_of}
use Rattle.scene.specs.Clips.{deepest_level}
use Rattle.scene.specs.Damage.{with_invalid}
use Rattle.scene.specs.Looks.{class_of}
use Rattle.scene.specs.Families.{window_changed}
use Rattle.invalidate.specs.Invalidation.{wholly_invalidated}
use Rattle.messages.specs.Reactions.{reactions_to, values_after, first_up}

-- ---- one window

abbrev pub with_values : List ℤ → Win → Win
with_values values w = record w { values = values }

-- what of a window isn't changed: all but its values and its invalid rectangle
abbrev pub rest_of : Win → Win
rest_of w = with_invalid (with_values [] w) None

-- one of the windows with these values: all of its clip is invalid where one differs from before,
-- and it is as it was where none does
abbrev pub with_new_values : Rect → List Win → List ℤ → Win → Win
with_new_values screen ws values w =
    if pointwise int_eq w.values values then w
    else wholly_invalidated screen ws (with_values values w)

-- what the class of a window does at a message
abbrev pub reactions_of : Assets → ℕ → Win → List React
reactions_of assets message w = reactions_to message (class_of assets w).reactions

-- one of the windows after a message to it alone
abbrev pub after_message : Assets → Rect → List Win → ℕ → ℤ → Win → Win
after_message assets screen ws message argument w =
    with_new_values screen ws (values_after argument (reactions_of assets message w) w.values) w

-- the message that a window then hands on to its parent, if any
abbrev pub handed_on : Assets → ℕ → Win → Option ℕ
handed_on assets message w = first_up (reactions_of assets message w)

-- ---- the windows

-- a window and its ancestors, so many at most, from the window up
abbrev pub lineage : ℕ → List Win → Win → List Win
lineage zero ws w = []
lineage (suc levels) ws w =
    w ∷ unwrap_or (option_map (lineage levels ws) (window_of ws w.parent)) []

-- the windows after a message to the first of a lineage, which goes on to the next one as far as
-- each hands on a message
abbrev pub delivered_along : Assets → Rect → ℕ → ℤ → List Win → List Win → List Win
delivered_along assets screen message argument [] ws = ws
delivered_along assets screen message argument (w ∷ above) ws =
    let now = window_changed w.handle (after_message assets screen ws message argument) ws in
    unwrap_or
    (option_map (λ up. delivered_along assets screen up argument above now)
    (handed_on assets message w)) now

-- the windows after a message to one of them
unfoldable pub delivered : Assets → Rect → ℕ → ℤ → Win → List Win → List Win
delivered assets screen message argument w ws =
    delivered_along assets screen message argument (lineage deepest_level ws w) ws
