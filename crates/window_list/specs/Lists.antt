-- The tree of the windows, and the list of its order.
use Rattle.std.specs.Prelude.{◌≡◌, List}
use Rattle.scene.specs.declared.win.Win.{Win}
use Rattle.scene.specs.Stacks.{IsStack, AreGiven}
use Rattle.win_tree.specs.Trees.{Scene}

-- the tree has just the windows of the list, from back to front
pub record IsInStep (tree : Scene) (ws : List Win) : Type 0 where
  pub windows : tree.windows ≡ ws
  pub stack : IsStack ws
  pub given : AreGiven tree.handles ws
