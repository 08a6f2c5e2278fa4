-- A few lines of classes as data.
use Rattle.std.specs.Prelude.{ℤ, pos, negsuc}
use Rattle.gfx_base.specs.declared.num.Base.{Base}
use Rattle.gfx_base.specs.declared.num.Base.TheVariants.{Zero, Width, Height, Value}
use Rattle.gfx_base.specs.declared.num.Num.{Num}
use Rattle.paint_ops.specs.declared.op.Op.TheVariants as op
use Rattle.paint_ops.specs.declared.class.Operand.TheVariants.{Argument}
use Rattle.paint_ops.specs.declared.class.React.TheVariants as react
use Rattle.class_lines.specs.declared.line.ClassLine.{ClassLine}
use Rattle.class_lines.specs.declared.line.ClassLine.TheVariants.{Operation, Reaction}

abbrev num : Base → ℤ → Num
num base plus = record { base = base; plus = plus }

-- from the left edge to the last column, 12 rows below the place that value 3 says
abbrev pub blue_row : ClassLine
blue_row =
    Operation (op.HLine (num Zero (pos 0)) (num Width (negsuc 0)) (num (Value 3) (pos 12)) 255)

-- a number at the height of the window
abbrev pub low_number : ClassLine
low_number =
    Operation (op.Number 1 (num Zero (negsuc 1)) (num Height (pos 0)) 16711680
    (num (Value 15) (pos 0)))

-- value 15 becomes what message 7 brings
abbrev pub keeps_argument : ClassLine
keeps_argument = Reaction (record { on = 7; react = react.Set 15 Argument })
