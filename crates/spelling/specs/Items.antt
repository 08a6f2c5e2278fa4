-- Lines that are items, one after another, with comments between them.
use Rattle.std.specs.Prelude.{◌≡◌, ℕ, Bool, true, ◌||◌, ◌==◌, List, [], ◌∷◌, ◌++◌, length, slice_index}
use Rattle.std.specs.List.{AllByRecursion}

-- the line is empty or begins with `#`
abbrev pub is_comment : List ℕ → Bool
is_comment line = length line == 0 || slice_index line 0 == 35

-- the lines are comments
abbrev pub AreComments : List (List ℕ) → Type 0
AreComments lines = AllByRecursion (λ line. is_comment line ≡ true) lines

-- The lines are these items after what stands before. Spells says which lines are an item there,
-- and after what then stands before the next.
abbrev pub AreItems : {I B : Type 0} → (B → I → List (List ℕ) → Type 0) → (B → I → B) → B → List I
    → List (List ℕ) → Type 0
AreItems Spells after before [] lines = AreComments lines
AreItems Spells after before (item ∷ items) lines =
    (comments : List (List ℕ)) × (block : List (List ℕ)) × (rest : List (List ℕ))
    × (lines ≡ comments ++ (block ++ rest)) × AreComments comments × Spells before item block
    × AreItems Spells after (after before item) items rest

-- what stands after these items
abbrev pub all_after : {I B : Type 0} → (B → I → B) → B → List I → B
all_after after before [] = before
all_after after before (item ∷ items) = all_after after (after before item) items
