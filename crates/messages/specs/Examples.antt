-- Messages in numbers: small classes and windows.
use Rattle.std.specs.Prelude.{ℕ, ℤ, pos, List, [], ◌∷◌, map, replicate, Some, None}
use Rattle.gfx_base.specs.declared.rect.Rect.{Rect}
use Rattle.paint_ops.specs.declared.class.Operand.TheVariants as operand
use Rattle.paint_ops.specs.declared.class.React.{React}
use Rattle.paint_ops.specs.declared.class.React.TheVariants as react
use Rattle.paint_ops.specs.declared.class.Reaction.{Reaction}
use Rattle.paint_ops.specs.Kinds.{Assets}
use Rattle.scene.specs.declared.win.Win.{Win}
use Rattle.scene.specs.Looks.{screen_with}
use Rattle.scene.specs.Families.{new_window}

-- ---- reactions

abbrev pub add_argument : React
add_argument = react.Add 0 operand.Argument

abbrev pub set_argument_add_two : List React
set_argument_add_two = react.Set 0 operand.Argument ∷ react.Add 0 (operand.Const (pos 2)) ∷ []

abbrev pub add_two_set_argument : List React
add_two_set_argument = react.Add 0 (operand.Const (pos 2)) ∷ react.Set 0 operand.Argument ∷ []

abbrev pub two_ups : List React
two_ups = react.Set 0 operand.Argument ∷ react.Up 4 ∷ react.Up 9 ∷ []

abbrev pub on : ℕ → React → Reaction
on message react = record { on = message; react = react }

-- ---- classes

-- what is painted with, where the classes have these reactions and paint nothing
abbrev pub assets_with : List (List Reaction) → Assets
assets_with classes = record {
  classes = map (λ reactions. record { back = None; ops = []; reactions = reactions }) classes;
  fonts = [];
  bitmaps = [];
  strings = [];
}

-- at 3 a window of class 1 adds the argument and hands on 4, at which one of class 2 sets a value
abbrev pub one_step : Assets
one_step = assets_with
    ([]
    ∷ (on 3 (react.Add 0 operand.Argument) ∷ on 3 (react.Up 4) ∷ [])
    ∷ (on 4 (react.Set 1 (operand.Const (pos 3))) ∷ [])
    ∷ [])

-- 3 leads from class 1 to class 2 as 4 and to the desktop as 5, which hands on 3; a window that
-- hands on a message acts before, also by the reactions after that one; 9 is never handed on
abbrev pub whole_way : Assets
whole_way = assets_with
    ((on 5 (react.Add 0 operand.Argument) ∷ on 5 (react.Up 3) ∷ [])
    ∷ (on 3 (react.Up 4) ∷ on 3 (react.Add 0 operand.Argument) ∷ on 3 (react.Up 9) ∷ [])
    ∷ (on 9 (react.Set 1 (operand.Const (pos 1)))
    ∷ on 4 (react.Add 0 (operand.Const (pos 32767)))
    ∷ on 4 (react.Add 0 operand.Argument)
    ∷ on 4 (react.Up 5)
    ∷ [])
    ∷ [])

-- ---- windows

-- a screen of four points in a row
abbrev pub row_screen : Rect
row_screen = screen_with 4 1

abbrev pub desktop : Win
desktop = new_window 1 0 (pos 0) (pos 0) 4 1 0

-- as large as the desktop, in which it lies
abbrev pub outer : Win
outer = new_window 2 1 (pos 0) (pos 0) 4 1 2

-- on the first three points of the one in which it lies
abbrev pub inner : Win
inner = new_window 3 2 (pos 0) (pos 0) 3 1 1

abbrev pub three_windows : List Win
three_windows = desktop ∷ outer ∷ inner ∷ []

-- the window with its first two values changed, and invalid here
abbrev pub changed_to : ℤ → ℤ → Rect → Win → Win
changed_to first second here w =
    record w { values = first ∷ second ∷ replicate 14 (pos 0); invalid = Some here }
