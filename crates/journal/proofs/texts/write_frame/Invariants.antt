use Rattle.journal.specs.Texts.{frame_text}
use Rattle.journal.proofs.FrameLemmas.{lines_from}
use Rattle.outside.proofs.CallerLemmas.{Partly}
use Rattle.journal.proofs.texts.write_frame.Given as goal

abbrev pub invariant-loop-y : goal.invariant-loop-y
invariant-loop-y g l = Partly (g.K.Sink.log l.fn.out) (g.K.Sink.log l.out) (lines_from l.f.picture l.y) (frame_text l.f.picture)
