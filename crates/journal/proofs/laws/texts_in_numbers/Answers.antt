use Rattle.std.proofs.Common.{refl}
use Rattle.std.specs.Fmt.{digits}
use Rattle.spelling.specs.Digits.{hex_colour}
use Rattle.journal.specs.Texts.{run_text, points_line, frame_text}
use Rattle.journal.proofs.laws.texts_in_numbers.Goals as goal

pub returns : goal.returns
unfolding digits hex_colour run_text points_line frame_text
returns c = record {
  colour = refl;
  row = refl;
  picture = refl;
  handle = refl;
  jobs = refl;
  done = refl;
  scan = refl;
  size = refl;
  class = refl;
  window = refl;
  many = refl;
  waiting = refl;
  shown = refl;
  nothing = refl;
  summary = refl;
  fault = refl;
}
