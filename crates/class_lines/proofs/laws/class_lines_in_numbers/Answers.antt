use Rattle.std.proofs.Common.{refl}
use Rattle.std.specs.Fmt.{digits}
use Rattle.spelling.specs.Digits.{hex_colour}
use Rattle.class_lines.specs.Words.{name_of_word}
use Rattle.class_lines.proofs.laws.class_lines_in_numbers.Goals as goal

pub returns : goal.returns
unfolding digits hex_colour name_of_word
returns c = record { row = refl; number = refl; reaction = refl }
