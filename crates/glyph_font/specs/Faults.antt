-- The first fault of a body, by what the lines before it are.
use Rattle.std.specs.Prelude.{◌≡◌, ℕ, ◌<◌, List, [], ◌∷◌, ◌++◌, length, Option, Some, None, codes}
use Rattle.std.specs.List.{AllByRecursion}
use Rattle.spelling.specs.Parts.{lines_of}
use Rattle.spelling.specs.FirstFaults.{IsFirstFault}
use Rattle.glyph_font.specs.declared.place.Place.{Place}
use Rattle.glyph_font.specs.declared.place.Place.TheVariants.{Between, Within, After}
use Rattle.glyph_font.specs.declared.fault.FontWhy.{FontWhy}
use Rattle.glyph_font.specs.declared.fault.FontWhy.TheVariants as why
use Rattle.glyph_font.specs.declared.fault.FontFault.{FontFault}
use Rattle.glyph_font.specs.declared.fault.FontRefused.{FontRefused}
use Rattle.glyph_font.specs.declared.fault.FontRefused.TheVariants as refused
use Rattle.glyph_font.specs.Fonts.{Glyph, IsGlyph, IsRising}
use Rattle.glyph_font.specs.Texts.{lines_of_glyphs}

-- ---- what the first lines of a font are, by the place after them

-- the lines of whole glyphs
pub record AreGlyphs (height : ℕ) (lines : List (List ℕ)) : Type 0 where
  pub glyphs : List Glyph
  pub whole : AllByRecursion (IsGlyph height) glyphs
  pub rising : IsRising 32 glyphs
  pub spelled : lines ≡ lines_of_glyphs glyphs

-- the lines of whole glyphs, and of a last one that lacks rows
pub record AreRows (height : ℕ) (lines : List (List ℕ)) : Type 0 where
  pub glyphs : List Glyph
  pub last : Glyph
  pub whole : AllByRecursion (IsGlyph height) glyphs
  pub begun : IsGlyph (length last.rows) last
  pub lacks : length last.rows < height
  pub rising : IsRising 32 (glyphs ++ last ∷ [])
  pub spelled : lines ≡ lines_of_glyphs (glyphs ++ last ∷ [])

-- the lines of whole glyphs, and the line `end`
pub record AreAll (height : ℕ) (lines : List (List ℕ)) : Type 0 where
  pub glyphs : List Glyph
  pub whole : AllByRecursion (IsGlyph height) glyphs
  pub rising : IsRising 32 glyphs
  pub spelled : lines ≡ lines_of_glyphs glyphs ++ codes "end" ∷ []

-- the lines are the first ones of a font, and after them stands this place: between glyphs, within
-- one, or after `end`
abbrev pub IsPrefix : ℕ → List (List ℕ) → Place → Type 0
IsPrefix height lines Between = AreGlyphs height lines
IsPrefix height lines Within = AreRows height lines
IsPrefix height lines After = AreAll height lines

-- ---- faults

-- what is wrong with a line that doesn't belong at a place
abbrev pub why_at : Place → FontWhy
why_at Between = why.Glyph
why_at Within = why.Row
why_at After = why.End

-- what is wrong with the end of the lines at a place
abbrev pub why_cut : Place → Option FontWhy
why_cut After = None
why_cut _ = Some why.End

-- the reason against a line at a place
abbrev pub WhyAt : Place → List ℕ → FontWhy → Type 0
WhyAt place line reason = reason ≡ why_at place

-- the longest prefix of a font, and then a line that is wrong, or the end
abbrev pub IsFault : ℕ → List ℕ → FontFault → Type 0
IsFault height body fault =
    IsFirstFault (IsPrefix height) WhyAt why_cut (lines_of body) fault.line fault.why

-- a refusal tells the fault; of one for want of memory nothing is said
abbrev pub IsRefused : ℕ → List ℕ → FontRefused → Type 0
IsRefused height body refused.Memory = Unit {0}
IsRefused height body (refused.Fault fault) = IsFault height body fault
