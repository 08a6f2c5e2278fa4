-- A small tree, for laws in numbers.
use Rattle.std.specs.Prelude.{ℕ, pos, List, [], ◌∷◌, map}
use Rattle.scene.specs.declared.win.Win.{Win}
use Rattle.scene.specs.Families.{new_window}

-- a window of one point in a parent
abbrev pub dot_in : ℕ → ℕ → Win
dot_in parent handle = new_window handle parent (pos 0) (pos 0) 1 1 0

-- the desktop has 2, which has 3, and above it 4
abbrev pub small_tree : List Win
small_tree = dot_in 0 1 ∷ dot_in 1 2 ∷ dot_in 2 3 ∷ dot_in 1 4 ∷ []

abbrev pub handles_of : List Win → List ℕ
handles_of ws = map (λ w. w.handle) ws
