-- The exit status of each ending, and what the standard error is told of it.
use Rattle.std.specs.Prelude.{ℕ, List, [], ◌++◌, codes, decimal}
use Rattle.svg.specs.declared.fault.Fault.{Fault}
use Rattle.svg.specs.declared.fault.Reason.{Reason}
use Rattle.svg.specs.declared.fault.Reason.TheVariants.{Sides, First, Row, Cut, Missing}
use Rattle.svg.specs.declared.ending.Ending.{Ending}
use Rattle.svg.specs.declared.ending.Ending.TheVariants.{Done, Usage, NoPicture, Input, Output, Memory}

abbrev pub status_of : Ending → ℕ
status_of Done = 0
status_of Usage = 2
status_of (NoPicture fault) = 3
status_of Input = 4
status_of Output = 5
status_of Memory = 9

abbrev pub reason_text : Reason → List ℕ
reason_text Sides = codes "no 'frame W H' of sides up to 1024 and 768"
reason_text First = codes "no row above"
reason_text Row = codes "no runs of as many points as the picture is wide"
reason_text Cut = codes "the input ends within a picture"
reason_text Missing = codes "no such picture"

unfoldable pub fault_line : Fault → List ℕ
fault_line fault =
    codes "frame-svg: fault " ++ decimal fault.line ++ codes " " ++ reason_text fault.why
    ++ codes "\n"

-- the line of an ending that has no fault; of the first nothing is told
abbrev pub plain_line : Ending → List ℕ
plain_line Done = []
plain_line Usage = codes "usage: frame-svg [NUMBER]\n"
plain_line (NoPicture fault) = []
plain_line Input = codes "frame-svg: input fault\n"
plain_line Output = codes "frame-svg: output fault\n"
plain_line Memory = codes "frame-svg: out of memory\n"

-- the line of each ending
abbrev pub error_line : Ending → List ℕ
error_line (NoPicture fault) = fault_line fault
error_line ending = plain_line ending
