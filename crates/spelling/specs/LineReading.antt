-- Reading line by line. The step gives what the lines so far say, or a reason against the line.
use Rattle.std.specs.Prelude.{◌≡◌, ℕ, ◌+◌, List, [], ◌∷◌, ◌++◌, Option, Some, None, Result, Ok, Err}

-- goes on, or keeps the reason
abbrev pub on : {A B R : Type 0} → Result A R → (A → Result B R) → Result B R
on (Ok x) next = next x
on (Err reason) next = Err reason

-- what these lines say
abbrev pub run : {D R : Type 0} → (D → List ℕ → Result D R) → D → List (List ℕ) → Result D R
run step d [] = Ok d
run step d (line ∷ lines) = on (step d line) (λ next. run step next lines)

-- at the end, where line n would be
abbrev pub ended : {D R : Type 0} → ℕ → Option R → D → Result D (ℕ × R)
ended n None d = Ok d
ended n (Some reason) d = Err (n, reason)

-- goes on after line n, or stops there
abbrev pub on_line : {D R : Type 0} → ℕ → Result D R → (D → Result D (ℕ × R)) → Result D (ℕ × R)
on_line n (Ok d) next = next d
on_line n (Err reason) next = Err (n, reason)

-- the lines from line n on: what all of them say, or the first line with its reason
abbrev pub read_from : {D R : Type 0} → (D → List ℕ → Result D R) → (D → Option R) → ℕ → D
    → List (List ℕ) → Result D (ℕ × R)
read_from step close n d [] = ended n (close d) d
read_from step close n d (line ∷ lines) =
    on_line n (step d line) (λ next. read_from step close (n + 1) next lines)

-- The step reads the prefixes: what it says after lines stands after them, as view has it, and its
-- reasons are those of Why, of which one holds.
pub record IsReading {D P R : Type 0} (step : D → List ℕ → Result D R) (start : D) (view : D → P)
    (Prefix : List (List ℕ) → P → Type 0) (Why : P → List ℕ → R → Type 0) : Type 0 where
  pub sound : (lines : List (List ℕ)) (d : D) → run step start lines ≡ Ok d
      → Prefix lines (view d)
  pub complete : (lines : List (List ℕ)) (place : P) → Prefix lines place
      → (d : D) × (run step start lines ≡ Ok d) × (view d ≡ place)
  pub reasons : (lines : List (List ℕ)) (d : D) (line : List ℕ) (reason : R)
      → run step start lines ≡ Ok d → step d line ≡ Err reason → Why (view d) line reason
  pub one_reason : (lines : List (List ℕ)) (place : P) (line : List ℕ) (r s : R)
      → Prefix lines place → ((other : P) → Prefix (lines ++ line ∷ []) other → ⊥)
      → Why place line r → Why place line s → r ≡ s
