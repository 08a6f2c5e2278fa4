use Rattle.outside.proofs.CallerLemmas.{Partly}
use Rattle.svg.specs.Texts.{svg_text}
use Rattle.svg.proofs.TextLemmas.{rest_from}
use Rattle.svg.proofs.writing.write_svg.Given as goal

abbrev pub invariant-loop-y : goal.invariant-loop-y
invariant-loop-y g l = Partly (g.K.Sink.log l.fn.out) (g.K.Sink.log l.out) (rest_from l.image l.y) (svg_text l.image)
