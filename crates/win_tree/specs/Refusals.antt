-- When a call on the windows is refused, and by what.
use Rattle.std.specs.Prelude.{ℕ, ◌==◌, nat_le, if◌then◌else◌, List, length, Option, Some, None, is_some, option_map, unwrap_or}
use Rattle.scene.specs.declared.win.Win.{Win}
use Rattle.scene.specs.Places.{window_of}
use Rattle.scene.specs.Stacks.{has_ancestors, is_bad_size}
use Rattle.win_tree.specs.declared.refused.TreeRefused.{TreeRefused}
use Rattle.win_tree.specs.declared.refused.TreeRefused.TheVariants.{NoWindow, Desktop, BadSize, TooManyWindows, TooDeep}

-- the first reason why a window can't be made in one that is there: a window of the deepest level
-- has seven ancestors
abbrev pub refusal_in : List Win → ℕ → ℕ → Win → Option TreeRefused
refusal_in ws w h parent =
    if has_ancestors 7 ws parent then Some TooDeep
    else (if is_bad_size w h then Some BadSize
    else (if nat_le 256 (length ws) then Some TooManyWindows else None))

-- the first reason why a window can't be made
abbrev pub refusal_of_create : List Win → ℕ → ℕ → ℕ → Option TreeRefused
refusal_of_create ws parent w h =
    unwrap_or (option_map (refusal_in ws w h) (window_of ws parent)) (Some (NoWindow parent))

-- the first reason why a window can't be changed
abbrev pub refusal_of_change : List Win → ℕ → Option TreeRefused
refusal_of_change ws handle =
    if is_some (window_of ws handle) then (if handle == 1 then Some Desktop else None)
    else Some (NoWindow handle)

-- the first reason why a window can't have these sides
abbrev pub refusal_of_resize : List Win → ℕ → ℕ → ℕ → Option TreeRefused
refusal_of_resize ws handle w h =
    if is_some (window_of ws handle) then
    (if handle == 1 then Some Desktop else (if is_bad_size w h then Some BadSize else None))
    else Some (NoWindow handle)
