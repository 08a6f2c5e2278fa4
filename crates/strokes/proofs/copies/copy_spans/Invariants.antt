use Rattle.std.proofs.Common.{◌≡◌, ◌&&◌}
use Rattle.std.specs.Prelude.{◌==◌}
use Rattle.frame.specs.Pictures.{changed}
use Rattle.paint_ops.proofs.CallerLemmas.{in_first}
use Rattle.strokes.specs.Parts.{colour_copied}
use Rattle.strokes.proofs.copies.copy_spans.Given as goal

abbrev pub invariant-loop-span : goal.invariant-loop-span
invariant-loop-span l = l.target.picture ≡ changed l.fn.target.picture (λ u v. v == l.y && in_first l.spans l.span-index u) (colour_copied l.from.picture l.corner)
