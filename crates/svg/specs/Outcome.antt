-- What was written, by how drawing ended.
use Rattle.std.specs.Prelude.{◌≡◌, ℕ, ◌-◌, ◌^◌, List, [], take, Option, Some, Ok, Err, IfSome}
use Rattle.frame.specs.Pictures.{Picture, HasShape}
use Rattle.outside.specs.Logs.{SinkLog, Whole, Broken}
use Rattle.svg.specs.declared.ending.Ending.{Ending}
use Rattle.svg.specs.declared.ending.Ending.TheVariants.{Done, Usage, NoPicture, Input, Output, Memory}
use Rattle.svg.specs.Reading.{picture_in}
use Rattle.svg.specs.Texts.{svg_text}
use Rattle.svg.specs.Words.{choice_of}

-- the text tells this picture, where that of a number is wanted or the last one
pub record Tells (wanted : Option ℕ) (text : List ℕ) (p : Picture) : Type 0 where
  pub read : picture_in wanted text ≡ Ok p
  pub shape : HasShape p

-- what was written for a text
abbrev pub Shows : Ending → Option ℕ → List ℕ → SinkLog → SinkLog → Type 0
Shows Done wanted text old new =
    (p : Picture) × Tells wanted text p × Whole old new (svg_text p)
Shows Usage wanted text old new = ⊥
Shows (NoPicture fault) wanted text old new =
    (picture_in wanted text ≡ Err fault) × Whole old new []
Shows Input wanted text old new = ⊥
Shows Output wanted text old new =
    (p : Picture) × Tells wanted text p × Broken old new (svg_text p)
Shows Memory wanted text old new = Whole old new []

-- The text is the input, where that is told: as much as can be counted.
abbrev pub IsInput : Option (List ℕ) → List ℕ → Type 0
IsInput told text = IfSome told (λ input. text ≡ take (2 ^ 64 - 1) input)

-- what was written for the words and the input
abbrev pub ShowsInput : Ending → List (List ℕ) → Option (List ℕ) → SinkLog → SinkLog → Type 0
ShowsInput ending words told old new =
    (wanted : Option ℕ) × (text : List ℕ) × (choice_of words ≡ Some wanted) × IsInput told text
    × Shows ending wanted text old new

-- how drawing ended
abbrev pub Ends : Ending → List (List ℕ) → Option (List ℕ) → SinkLog → SinkLog → Type 0
Ends Done words told old new = ShowsInput Done words told old new
Ends Usage words told old new = Whole old new []
Ends (NoPicture fault) words told old new = ShowsInput (NoPicture fault) words told old new
Ends Input words told old new = Whole old new []
Ends Output words told old new = ShowsInput Output words told old new
Ends Memory words told old new = Whole old new []
