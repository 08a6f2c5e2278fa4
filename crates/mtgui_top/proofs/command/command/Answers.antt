use Rattle.std.proofs.Common.{◌≡◌, ℕ, ◌<◌, ◌≤◌, List, [], ◌∷◌, length, get_or, map, arith}

-- the words of a list of two
two : {X : Type 0} (f : X → List ℕ) (ws : List X) (a b : X) → 2 ≤ length ws → length ws < 3 → a ≡ get_or ws 0 a → b ≡ get_or ws 1 b → map f ws ≡ f a ∷ f b ∷ []
two f [] a b more less p q = absurd (omega arith)
two f (x ∷ []) a b more less p q = absurd (omega arith)
two f (x ∷ y ∷ []) a b more less p q = cc
two f (x ∷ y ∷ z ∷ ws) a b more less p q = absurd (omega arith)
