use Rattle.std.specs.List.{flat_map}
use Rattle.outside.proofs.CallerLemmas.{Partly}
use Rattle.svg.specs.Rectangles.{rectangles_of_row}
use Rattle.svg.specs.Texts.{rectangle_text}
use Rattle.svg.proofs.TextLemmas.{row_from}
use Rattle.svg.proofs.writing.write_row.Given as goal

abbrev pub invariant-loop-x : goal.invariant-loop-x
invariant-loop-x g l = Partly (g.K.Sink.log l.fn.out) (g.K.Sink.log l.out) (row_from l.image l.y l.x) (flat_map rectangle_text (rectangles_of_row l.image l.y))
