use Rattle.std.proofs.Common.{◌≡◌}
use Rattle.frame.specs.Pictures.{changed}
use Rattle.strokes.specs.Parts.{colour_copied}
use Rattle.strokes.proofs.CopyLemmas.{run_before}
use Rattle.strokes.proofs.copies.copy_run.Given as goal

abbrev pub invariant-loop-x : goal.invariant-loop-x
invariant-loop-x l = l.target.picture ≡ changed l.fn.target.picture (run_before l.y l.left l.x) (colour_copied l.from.picture l.corner)
