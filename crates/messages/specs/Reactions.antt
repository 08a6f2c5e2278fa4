-- What reactions to a message make of a window's values, and what they hand on.
use Rattle.std.specs.Prelude.{ℕ, ◌==◌, ℤ, pos, ◌+ℤ◌, List, map, filter, filter_map, fold, slice_get, slice_set, slice_index_or, Option, Some, None}
use Rattle.std.specs.Int.{w16, saturate_signed}
use Rattle.paint_ops.specs.declared.class.Operand.{Operand}
use Rattle.paint_ops.specs.declared.class.Operand.TheVariants as operand
use Rattle.paint_ops.specs.declared.class.React.{React}
use Rattle.paint_ops.specs.declared.class.React.TheVariants as react
use Rattle.paint_ops.specs.declared.class.Reaction.{Reaction}

-- the reactions to the message of this number, in order
abbrev pub reactions_to : ℕ → List Reaction → List React
reactions_to message reactions =
    map (λ (r : Reaction). r.react) (filter (λ (r : Reaction). r.on == message) reactions)

-- the number that an operand stands for, where the message has this argument
abbrev pub number_for : ℤ → Operand → ℤ
number_for argument (operand.Const number) = number
number_for argument operand.Argument = argument

-- a sum that stops at −32,768 and 32,767, the ends of 16 bits
abbrev pub stopped : ℤ → ℤ
stopped z = saturate_signed w16 z

-- the values after one reaction
abbrev pub reacted : ℤ → List ℤ → React → List ℤ
reacted argument values (react.Set i operand) = slice_set values i (number_for argument operand)
reacted argument values (react.Add i operand) =
    slice_set values i
    (stopped (slice_index_or values i (pos 0) +ℤ number_for argument operand))
reacted argument values (react.Up message) = values

-- the values after all of the reactions, one after the other
abbrev pub values_after : ℤ → List React → List ℤ → List ℤ
values_after argument reactions values = fold (reacted argument) values reactions

-- the message that a reaction hands on, if it does that
abbrev pub up_of : React → Option ℕ
up_of (react.Set i operand) = None
up_of (react.Add i operand) = None
up_of (react.Up message) = Some message

-- the first message that is handed on, if any is
abbrev pub first_up : List React → Option ℕ
first_up reactions = slice_get (filter_map up_of reactions) 0
