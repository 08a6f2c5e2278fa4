-- How the refusals of the tree are answered, and what calls on the windows come to.
use Rattle.std.specs.Prelude.{◌≡◌, ℕ, ◌+◌, List, Option, Some, None, Result, Ok, Err}
use Rattle.scene.specs.declared.win.Win.{Win}
use Rattle.win_tree.specs.Trees.{Scene}
use Rattle.win_tree.specs.declared.refused.TreeRefused.{TreeRefused}
use Rattle.win_tree.specs.declared.refused.TreeRefused.TheVariants as tree
use Rattle.calls.specs.declared.reply.Refusal.{Refusal}
use Rattle.calls.specs.declared.reply.Refusal.TheVariants.{NoWindow, Desktop, BadSize, TooManyWindows, TooDeep}

-- the core's refusal for the tree's
abbrev pub refusal_for : TreeRefused → Refusal
refusal_for (tree.NoWindow h) = NoWindow h
refusal_for tree.Desktop = Desktop
refusal_for tree.BadSize = BadSize
refusal_for tree.TooManyWindows = TooManyWindows
refusal_for tree.TooDeep = TooDeep

-- the tree's answer, as the core gives it
abbrev pub told : Result (Unit {0}) TreeRefused → Result (Unit {0}) Refusal
told (Ok done) = Ok done
told (Err refused) = Err (refusal_for refused)

-- A call that is refused for the first reason, if there is one, changes nothing. Else it makes this
-- list of the windows.
abbrev pub Performs : Result (Unit {0}) Refusal → Option Refusal → List Win → Scene → Scene → Type 0
Performs (Ok _) reason now old new = (reason ≡ None) × (new ≡ record old { windows = now })
Performs (Err refusal) reason now old new = (reason ≡ Some refusal) × (new ≡ old)

-- the same for a call that gives the next handle to a new window
abbrev pub Creates : Result ℕ Refusal → Option Refusal → List Win → Scene → Scene → Type 0
Creates (Ok handle) reason now old new =
    (reason ≡ None) × (handle ≡ old.handles + 1)
    × (new ≡ record { windows = now; handles = old.handles + 1 })
Creates (Err refusal) reason now old new = (reason ≡ Some refusal) × (new ≡ old)
