-- The first fault of lines that are read one by one. Prefix says which lines are the first ones of
-- a text and what stands after them, Why what the reason is against a line that makes no longer
-- prefix there, and at_end is the reason against the end, if there is one.
use Rattle.std.specs.Prelude.{◌≡◌, ℕ, ◌+◌, ◌<◌, List, [], ◌∷◌, ◌++◌, length, Option, Some}

-- against the next line, which makes no longer prefix, or against the end
abbrev pub IsAgainst : {P R : Type 0} → (List (List ℕ) → P → Type 0)
    → (P → List ℕ → R → Type 0) → (P → Option R) → List (List ℕ) → P → List (List ℕ) → R → Type 0
IsAgainst Prefix Why at_end prefix place [] reason = at_end place ≡ Some reason
IsAgainst {P} Prefix Why at_end prefix place (line ∷ lines) reason =
    ((other : P) → Prefix (prefix ++ line ∷ []) other → ⊥) × Why place line reason

-- the lines before are right, and the reason is against this one
pub record IsFirstFault {P R : Type 0} (Prefix : List (List ℕ) → P → Type 0)
    (Why : P → List ℕ → R → Type 0) (at_end : P → Option R) (lines : List (List ℕ)) (line : ℕ)
    (reason : R) : Type 0 where
  pub prefix : List (List ℕ)
  pub rest : List (List ℕ)
  pub place : P
  pub parts : lines ≡ prefix ++ rest
  pub counted : line ≡ length prefix + 1
  pub right : Prefix prefix place
  pub wrong : IsAgainst Prefix Why at_end prefix place rest reason

-- of several reasons the first one that holds, in the order of rank
abbrev pub IsFirst : {R : Type 0} → (R → ℕ) → (R → Type 0) → R → Type 0
IsFirst {R} rank Holds reason =
    Holds reason × ((earlier : R) → rank earlier < rank reason → Holds earlier → ⊥)

-- The lines after head are a block of a file: each of its prefixes is one of the file's, and while
-- it is open no other is.
pub record IsBlock {P Q R S : Type 0} (Prefix : List (List ℕ) → P → Type 0)
    (Why : P → List ℕ → R → Type 0) (at_end : P → Option R) (Prefix' : List (List ℕ) → Q → Type 0)
    (Why' : Q → List ℕ → S → Type 0) (at_end' : Q → Option S) (head : List (List ℕ))
    (Open : P → Type 0) (inside : P → Q) (turn : R → S) : Type 0 where
  pub begins : (xs : List (List ℕ)) (p : P) → Prefix xs p → Prefix' (head ++ xs) (inside p)
  pub stays : (xs : List (List ℕ)) (p : P) (line : List ℕ) (q : Q) → Open p → Prefix xs p
      → Prefix' (head ++ (xs ++ line ∷ [])) q → (other : P) × Prefix (xs ++ line ∷ []) other
  pub reasons : (p : P) (line : List ℕ) (r : R) → Open p → Why p line r
      → Why' (inside p) line (turn r)
  pub ends : (p : P) (r : R) → Open p → at_end p ≡ Some r → at_end' (inside p) ≡ Some (turn r)
