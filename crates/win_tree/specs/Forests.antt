-- The trees that linked nodes are, which no code holds, and what is true of the nodes of a tree.
use Rattle.std.specs.Prelude.{◌≡◌, ℕ, ◌+◌, ◌≤◌, Bool, ◌==◌, if◌then◌else◌, List, [], ◌∷◌, ◌++◌, length, Option, Some, None}
use Rattle.slab.specs.Slab.{Slab, get, slab_len}
use Rattle.scene.specs.declared.win.Win.{Win}
use Rattle.win_tree.specs.declared.node.Node.{Node}
use Rattle.scene.specs.Families.{has_handle}
use Rattle.scene.specs.Stacks.{IsShallow, IsWindow, IsDesktop}

-- Siblings from top to bottom: the topmost with its children, and those below it.
pub data Forest : Type 0 where
  Empty : Forest
  Top : Win → Forest → Forest → Forest

-- the windows from back to front
abbrev pub order : Forest → List Win
order Empty = []
order (Top w kids below) = order below ++ w ∷ order kids

abbrev pub one_if : Bool → ℕ
one_if b = if b then 1 else 0

-- how many of the windows have the handle
abbrev pub among : ℕ → Forest → ℕ
among handle Empty = 0
among handle (Top w kids below) =
    one_if (w.handle == handle) + among handle kids + among handle below

-- the link leads to the siblings
abbrev pub AreLinked : (ℕ → Option Node) → Option ℕ → Forest → Type 0
AreLinked found link Empty = link ≡ None
AreLinked found link (Top w kids below) =
    (key : ℕ) × (n : Node) × (link ≡ Some key) × (found key ≡ Some n) × (n.win ≡ w)
    × AreLinked found n.first kids × AreLinked found n.next below

-- the siblings are children of the parent, and so are theirs
abbrev pub AreChildren : ℕ → Forest → Type 0
AreChildren parent Empty = Unit {0}
AreChildren parent (Top w kids below) =
    (w.parent ≡ parent) × AreChildren w.handle kids × AreChildren parent below

-- no two keys have windows of one handle
abbrev pub IsOneEach : (ℕ → Option Node) → Type 0
IsOneEach found =
    (k j : ℕ) (n m : Node) → found k ≡ Some n → found j ≡ Some m
    → n.win.handle ≡ m.win.handle → k ≡ j

-- the node's window has a handle that was given out, and only the desktop has no parent
pub record IsNamed (handles : ℕ) (n : Node) : Type 0 where
  pub given : n.win.handle ≤ handles
  pub parent : n.win.parent ≡ 0 → n.win.handle ≡ 1
  pub parent_given : n.win.parent ≤ handles
  pub window : IsWindow n.win
  pub desktop : n.win.handle ≡ 1 → IsDesktop n.win

-- the nodes are those of the tree
pub record IsTreeOf (found : ℕ → Option Node) (desktop handles : ℕ) (t : Forest) : Type 0 where
  pub linked : AreLinked found (Some desktop) t
  pub children : AreChildren 0 t
  pub single : (handle : ℕ) → among handle t ≤ 1
  pub complete : (k : ℕ) (n : Node) → found k ≡ Some n → 1 ≤ among n.win.handle t
  pub one_each : IsOneEach found
  pub named : (k : ℕ) (n : Node) → found k ≡ Some n → IsNamed handles n
  pub root : (n : Node) → found desktop ≡ Some n → n.win.handle ≡ 1
  pub some : 1 ≤ handles

-- the nodes are those of a tree of at most 256 windows, for which there is room
pub record IsTree (nodes : Slab Node) (desktop handles : ℕ) : Type 0 where
  pub forest : Forest
  pub nodes_of : IsTreeOf (get nodes) desktop handles forest
  pub shallow : (k : ℕ) (n : Node) → get nodes k ≡ Some n → IsShallow (order forest) n.win
  pub len : slab_len nodes ≡ length (order forest)
  pub few : slab_len nodes ≤ 256
  pub room : 256 ≤ nodes.capacity

-- what is left under a key where windows are removed
abbrev pub left_without : List Win → Option Node → Option Node
left_without ws None = None
left_without ws (Some n) = if has_handle n.win.handle ws then None else Some n
