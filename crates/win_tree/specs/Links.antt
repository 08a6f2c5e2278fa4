-- Nodes found by their keys, and their links.
use Rattle.std.specs.Prelude.{ℕ, zero, suc, ◌==◌, if◌then◌else◌, List, [], ◌∷◌, ◌++◌, Option, Some, None, option_map, unwrap_or}
use Rattle.scene.specs.declared.win.Win.{Win}
use Rattle.win_tree.specs.declared.node.Node.{Node}

-- a link, where one to the key goes on to another
abbrev pub over : ℕ → Option ℕ → Option ℕ → Option ℕ
over key below None = None
over key below (Some k) = if k == key then below else Some k

-- the node with its links over the key
abbrev pub skipping : ℕ → Option ℕ → Node → Node
skipping key below n = record n { first = over key below n.first; next = over key below n.next }

-- a link, or one to the key where there is none
abbrev pub or_to : ℕ → Option ℕ → Option ℕ
or_to key None = Some key
or_to key (Some k) = Some k

-- the node, which, as the lowest child of the parent, has the key below it
abbrev pub above : ℕ → ℕ → Node → Node
above parent key n = record n { next = if n.win.parent == parent then or_to key n.next else n.next }

-- The windows that a link leads to, from back to front: first those below, then the window, then
-- its children. So many links at most are followed one after the other.
abbrev pub order_from : ℕ → (ℕ → Option Node) → Option ℕ → List Win
order_from zero found link = []
order_from (suc steps) found None = []
order_from (suc steps) found (Some key) =
    unwrap_or
    (option_map
    (λ (n : Node). order_from steps found n.next ++ n.win ∷ order_from steps found n.first)
    (found key)) []
